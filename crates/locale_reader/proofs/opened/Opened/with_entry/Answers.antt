use Rattle.std.proofs.Common.{Bool, ◌||◌, ◌&&◌, sym, ap, ◌∙◌}
use Rattle.std.specs.List.{list_any}
use Rattle.std.specs.Str.{bytes_eq}
use Rattle.keywords.specs.declared.source.Entry.{Entry}
use Rattle.locale_reader.specs.Opened.{is_charclass, is_text, declares}
use Rattle.locale_reader.proofs.Lists.{any_push, or_other}
use Rattle.locale_reader.proofs.opened.Opened.with_entry.Goals as goal

pub invariant_of-result : goal.invariant_of-result
invariant_of-result c = record {
  given = λ word.
      let p : Entry → Bool = λ e. bytes_eq e.keyword word in
      rw (c.in_ok-from_slice.ensures.items, c.as_bytes.ensures) at (c.in_ok-add_word.ensures word)
      ∙ ap (λ (b : Bool). bytes_eq c.args.line.keyword word || b) (c.self.invariant.given word)
      ∙ or_other (bytes_eq c.args.line.keyword word) (list_any p c.self.inside.entries.items)
      ∙ sym (any_push p c.self.inside.entries.items _ _ c.in_ok-push.ensures.items);
  declared = λ word.
      rw c.as_bytes-2.ensures at (c.in_ok-declared.ensures word)
      ∙ ap (λ (b : Bool). b || (is_charclass c.args.line.keyword && list_any (λ v. is_text word v.1) c.args.values)) (c.self.invariant.declared word)
      ∙ sym (any_push (declares word) c.self.inside.entries.items _ _ c.in_ok-push.ensures.items);
}
