use Rattle.std.proofs.Common.{◌≡◌, ℕ, ◌<◌, Bool, true, List, Some, length, take, sym, ap, subst, ◌∙◌, arith}
use Rattle.std.specs.Prelude.{slice_get, slice_index}
use Rattle.std.proofs.lemmas.Option.{slice_get_within}
use Rattle.langinfo.specs.declared.categories.LentCategories.{LentCategories}
use Rattle.std.proofs.lemmas.Bool.Decides.{nat_tests}
use Rattle.text_buffer.specs.Written.{over}
use Rattle.shared_objects.specs.Shared.{Shared}
use Rattle.c_values.specs.Codes.{OK}
use Rattle.c_values.specs.Answers.{answered}
use Rattle.c_values.specs.Table.{all_texts, has_room, laid, Tabled, texts_by}
use Rattle.c_values.proofs.TableLemmas.{text_stands, texts_same}
use Rattle.c_values.proofs.table.put_table.Goals as goal

pub returns-then-length-buffer-clause-table : goal.returns-then-length-buffer-clause-table
returns-then-length-buffer-clause-table c =
    let o : Shared = c.args.view.now in
    let old : List ℕ = c.args.buffer.now in
    let same : texts_by o c.categories-given.result ≡ all_texts o = texts_same o c.categories-given.result c.categories-given.ensures.ctype c.categories-given.ensures.numeric c.categories-given.ensures.monetary c.categories-given.ensures.time c.categories-given.ensures.messages in
    let size : c.table_length-length.result ≡ length (laid (all_texts o)) = c.table_length-length.ensures ∙ ap (λ ts. length (laid ts)) same in
    let room : has_room old (all_texts o) ≡ true = grind (arith, nat_tests, size, c.if-length-buffer.true) in
    subst (λ (b : Bool). Tabled b (all_texts o) c.answered.result old c.write_table.new.buffer c.args.table.now.starts c.write_table.new.table.starts) (sym room) (
      c.answered.ensures ∙ ap (λ n. answered OK n) size,
      c.write_table.ensures.written ∙ ap (λ ts. over old 0 (laid ts)) same,
      subst (λ (ts : List (List ℕ)). (k : ℕ) → k < 66 → slice_index c.write_table.new.table.starts k ≡ length (laid (take k ts))) same c.write_table.ensures.starts,
    )

pub returns-then-length-buffer-clause-texts : goal.returns-then-length-buffer-clause-texts
returns-then-length-buffer-clause-texts c =
    let o : Shared = c.args.view.now in
    let old : List ℕ = c.args.buffer.now in
    let g : LentCategories = c.categories-given.result in
    let same : texts_by o g ≡ all_texts o = texts_same o g c.categories-given.ensures.ctype c.categories-given.ensures.numeric c.categories-given.ensures.monetary c.categories-given.ensures.time c.categories-given.ensures.messages in
    let written : c.write_table.new.buffer ≡ over old 0 (laid (all_texts o)) = c.write_table.ensures.written ∙ ap (λ ts. over old 0 (laid ts)) same in
    λ (k : ℕ) (text : List ℕ) (found : slice_get (all_texts o) k ≡ Some text) (ok : c.answered.result.code ≡ OK).
    let inside : k < 65 = slice_get_within (all_texts o) k text found in
    let begins : slice_index c.write_table.new.table.starts k ≡ length (laid (take k (all_texts o))) =
    c.write_table.ensures.starts k (omega (arith, inside)) ∙ ap (λ ts. length (laid (take k ts))) same in
    text_stands old c.write_table.new.buffer (all_texts o) k (slice_index c.write_table.new.table.starts k) text found written begins
