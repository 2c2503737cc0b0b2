use Rattle.std.proofs.Common.{◌≡◌, ℕ, ◌+◌, ◌<◌, ◌^◌, List, Option, length, map, ap, sym, subst, ◌∙◌, arith}
use Rattle.std.specs.List.{range_with_len}
use Rattle.std.proofs.lemmas.Result.{IfOk-weaker}
use Rattle.std.proofs.lemmas.List.{length-map}
use Rattle.lc_base.specs.declared.category.Category.{Category}
use Rattle.locale_sources.specs.declared.source.Source.{Source as Lent}
use Rattle.locale_sources.specs.Seen.{source}
use Rattle.locale_sources.specs.Copies.{step, last}
use Rattle.locale_sources.specs.Tables.{IsClosed, repeated}
use Rattle.locale_sources.proofs.CopyLemmas.{table_of, ends_are, closed, length_of}
use Rattle.locale_sources.proofs.ends.ends_of.Goals as goal

-- the table that was made is that of the sources
same_table : (xs : List Lent) (c : Category) (t : List (Option ℕ)) → t ≡ map (step (map source xs) c) (range_with_len 0 (length xs + 1)) → t ≡ table_of (map source xs) c
same_table xs c t e = e ∙ ap (λ (n : ℕ). map (step (map source xs) c) (range_with_len 0 (n + 1))) (sym (length-map xs source))

small : (xs : List Lent) (c : Category) (t : List (Option ℕ)) → t ≡ table_of (map source xs) c → length xs < 2 ^ 31 → length t < 2 ^ 32
small xs c t e h = let size : length t ≡ length xs + 1 = ap length e ∙ (length_of (map source xs) c ∙ ap (λ (n : ℕ). n + 1) (length-map xs source)) in omega arith

ended : (xs : List Lent) (c : Category) (t v : List (Option ℕ)) → t ≡ table_of (map source xs) c → v ≡ map (repeated t (length xs)) (range_with_len 0 (length t)) → v ≡ map (last (map source xs) c) (range_with_len 0 (length xs + 1))
ended xs c t v e is =
    let S = map source xs in
    is ∙ (ap (λ (u : List (Option ℕ)). map (repeated u (length xs)) (range_with_len 0 (length u))) e
    ∙ (ap (λ (n : ℕ). map (repeated (table_of S c) n) (range_with_len 0 (length (table_of S c)))) (sym (length-map xs source))
    ∙ (ends_are S c ∙ ap (λ (n : ℕ). map (last S c) (range_with_len 0 (n + 1))) (length-map xs source))))

pub repeated-requires-clause-closed : goal.repeated-requires-clause-closed
repeated-requires-clause-closed c =
    let e = same_table c.args.sources.now c.args.category _ (c.as_slice.ensures.value ∙ c.in_ok-steps.ensures) in
    subst IsClosed (sym e) (closed (map source c.args.sources.now) c.args.category)

pub repeated-requires-clause-few : goal.repeated-requires-clause-few
repeated-requires-clause-few c =
    small c.args.sources.now c.args.category _ (same_table c.args.sources.now c.args.category _ (c.as_slice.ensures.value ∙ c.in_ok-steps.ensures)) c.requires.few

pub returns : goal.returns
returns c =
    let e = same_table c.args.sources.now c.args.category _ (c.as_slice.ensures.value ∙ c.in_ok-steps.ensures) in
    IfOk-weaker c.repeated.result _ _ (λ v is. ended c.args.sources.now c.args.category _ v.items e is) c.repeated.ensures
