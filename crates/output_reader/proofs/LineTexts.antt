-- The pieces of a line.
use Rattle.std.proofs.Common.{◌≡◌, ℕ, List, [], ◌∷◌, ◌++◌, get_or, Option, Some, None, refl, sym, ◌∙◌, arith, lit<}
use Rattle.std.specs.Prelude.{codes}
use Rattle.std.specs.Fmt.{decimal}
use Rattle.std.proofs.lemmas.List.{append_assoc, append_cancel_right}
use Rattle.script_out.specs.declared.output.OutLine.{OutLine}
use Rattle.script_out.specs.declared.output.Places.{Places}
use Rattle.script_out.specs.declared.output.Places.TheVariants as places
use Rattle.script_out.specs.declared.output.Said.{Said}
use Rattle.script_out.specs.Output.{places_text, version_text, reply_text, line_text}
use Rattle.output_reader.specs.Ranges.{ArePlaces, IsVersion}
use Rattle.output_reader.specs.Reading.{Lacks}
use Rattle.output_reader.proofs.Lacking.{lacks_append, decimal_lacks}

-- the line without its newline
abbrev pub pieces : List (List ℕ) → OutLine → List ℕ
pieces names l = decimal l.round ++ 32 ∷ (get_or names l.thread [] ++ 32 ∷ (decimal l.index ++ 32 ∷ (places_text l.places ++ 32 ∷ (version_text l.global ++ 32 ∷ reply_text names l.reply))))

pub line_pieces : (names : List (List ℕ)) (l : OutLine) → line_text names l ≡ pieces names l ++ 10 ∷ []
line_pieces names l = simp append_assoc

pub bytes_are : (names : List (List ℕ)) (l : OutLine) (bytes : List ℕ) → line_text names l ≡ bytes ++ 10 ∷ [] → bytes ≡ pieces names l
bytes_are names l bytes is = append_cancel_right bytes (pieces names l) (10 ∷ []) (sym is ∙ line_pieces names l)

pub places_lack : (p : Places) → ArePlaces p → Lacks (places_text p) 32
places_lack places.None fits = refl
places_lack (places.One a) fits = decimal_lacks a 32 fits (lit< tt)
places_lack (places.Two a b) fits = lacks_append (decimal a ++ codes ",") (decimal b) 32 (lacks_append (decimal a) (codes ",") 32 (decimal_lacks a 32 fits.0 (lit< tt)) refl) (decimal_lacks b 32 fits.1 (lit< tt))
places_lack (places.Catalog a) fits = lacks_append (codes "c") (decimal a) 32 refl (decimal_lacks a 32 fits (lit< tt))

pub version_lacks : (v : Option ℕ) → IsVersion v → Lacks (version_text v) 32
version_lacks None fits = refl
version_lacks (Some n) fits = lacks_append (codes "g") (decimal n) 32 refl (decimal_lacks n 32 (omega (arith, fits)) (lit< tt))

pub line_same : (l : OutLine) (round thread index : ℕ) (p : Places) (global : Option ℕ) (reply : Said) → round ≡ l.round → thread ≡ l.thread → index ≡ l.index → p ≡ l.places → global ≡ l.global → reply ≡ l.reply → ◌≡◌ {A = OutLine} (record { round = round; thread = thread; index = index; places = p; global = global; reply = reply }) l
line_same l round thread index p global reply a b c d e f = rw (a, b, c, d, e, f) refl

pub line_text_same : (names : List (List ℕ)) (l : OutLine) (round thread index : ℕ) (p : Places) (global : Option ℕ) (reply : Said) → round ≡ l.round → get_or names thread [] ≡ get_or names l.thread [] → index ≡ l.index → p ≡ l.places → global ≡ l.global → reply_text names reply ≡ reply_text names l.reply → line_text names (record { round = round; thread = thread; index = index; places = p; global = global; reply = reply }) ≡ line_text names l
line_text_same names l round thread index p global reply a b c d e f = rw (a, b, c, d, e, f) refl
