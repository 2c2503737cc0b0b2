-- Segments in their texts.
use Rattle.time_cat.specs.declared.segment.Segment.{Segment}
use Rattle.time_cat.specs.declared.segment.SegmentText.{SegmentText}

-- a segment with its texts
abbrev pub whole : SegmentText → Segment
whole s = record { forward = s.forward; offset = s.offset; start = s.start; end = s.end; name = s.name.now; format = s.format.now }
