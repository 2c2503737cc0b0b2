-- Numbered pages, as pages are added.
use Rattle.std.proofs.Common.{◌≡◌, ℕ, ◌+◌, ◌*◌, ◌/◌, ◌%◌, ◌-◌, ◌^◌, ◌<◌, ◌≤◌, Bool, true, false, cond, List, [], ◌∷◌, ◌++◌, length, get_or, Some, None, nat_eq, nat_lt, refl, sym, ap, ◌∙◌, arith, length-append, bit_and, slice_get}
use Rattle.std.specs.Prelude.{slice_index, option_map}
use Rattle.std.proofs.lemmas.Bool.Decides.{nat_tests}
use Rattle.std.proofs.Math.ListN.{get_or-append}
use Rattle.std.proofs.Math.Seq.{get_or-append_seam}
use Rattle.std.proofs.lemmas.Option.{slice_get_within, slice_get-get_or, slice_get_read}
use Rattle.class_ranges.proofs.Words.{bit_test}
use Rattle.class_ranges.specs.Pages.{Page, in_page, page_says, IsPaged}

-- what a list has at a place it has there after another element
pub get-append : (pages : List Page) (page other : Page) (n : ℕ) → slice_get pages n ≡ Some other → slice_get (pages ++ page ∷ []) n ≡ Some other
get-append pages page other n is =
    let within : n < length pages = slice_get_within pages n other is in
    let longer : n < length (pages ++ page ∷ []) = omega (arith, length-append pages (page ∷ [])) in
    slice_get-get_or (pages ++ page ∷ []) n [] longer ∙ ap Some (get_or-append pages (page ∷ []) [] n within) ∙ sym (slice_get-get_or pages n [] within) ∙ is

-- what the pages say is kept when one is added
pub kept : (pages : List Page) (page : Page) (n k : ℕ) (b : Bool) → page_says pages n k ≡ Some b → page_says (pages ++ page ∷ []) n k ≡ Some b
kept pages page n k b =
    let Q : Bool → Type 0 = λ less. cond less (Some (nat_eq n 1)) (option_map (λ p. in_page p k) (slice_get pages (n - 2))) ≡ Some b → cond less (Some (nat_eq n 1)) (option_map (λ p. in_page p k) (slice_get (pages ++ page ∷ []) (n - 2))) ≡ Some b in
    elim (nat_lt n 2) as Q [
      | true ↦ λ h. h
      | false ↦ (elim (slice_get pages (n - 2)) as (λ found. slice_get pages (n - 2) ≡ found → option_map (λ p. in_page p k) (slice_get pages (n - 2)) ≡ Some b → option_map (λ p. in_page p k) (slice_get (pages ++ page ∷ []) (n - 2)) ≡ Some b) [
        | None ↦ λ is h. absurd (cc)
        | Some other ↦ λ is h. ap (option_map (λ p. in_page p k)) (get-append pages page other (n - 2) is) ∙ sym (ap (option_map (λ p. in_page p k)) is) ∙ h
      ]) refl
    ]

-- what the page that is added says
pub added : (pages : List Page) (page : Page) (n k : ℕ) (b : Bool) → n ≡ length pages + 2 → in_page page k ≡ b → page_says (pages ++ page ∷ []) n k ≡ Some b
added pages page n k b is says =
    let not_whole : nat_lt n 2 ≡ false = grind (arith, nat_tests) in
    let at : n - 2 ≡ length pages = omega arith in
    let longer : length pages < length (pages ++ page ∷ []) = omega (arith, length-append pages (page ∷ [])) in
    let there : slice_get (pages ++ page ∷ []) (n - 2) ≡ Some page = ap (slice_get (pages ++ page ∷ [])) at ∙ slice_get-get_or (pages ++ page ∷ []) (length pages) [] longer ∙ ap Some (get_or-append_seam pages page [] []) in
    ap (λ less. cond less (Some (nat_eq n 1)) (option_map (λ p. in_page p k) (slice_get (pages ++ page ∷ []) (n - 2)))) not_whole
    ∙ ap (option_map (λ p. in_page p k)) there ∙ ap Some says

-- a table with one page more
pub more_paged : (test : ℕ → Bool) (numbers : List ℕ) (pages more : List Page) (n : ℕ)
    → IsPaged numbers pages test
    → ((m k : ℕ) (b : Bool) → page_says pages m k ≡ Some b → page_says more m k ≡ Some b)
    → ((k : ℕ) → k < 256 → page_says more n k ≡ Some (test (length numbers * 256 + k)))
    → IsPaged (numbers ++ n ∷ []) more test
more_paged test numbers pages more n right kept says w below =
    let low : w % 256 < 256 = omega arith in
    let old : w / 256 < length numbers → page_says more (slice_index (numbers ++ n ∷ []) (w / 256)) (w % 256) ≡ Some (test w) = λ within.
    ap (λ m. page_says more m (w % 256)) (get_or-append numbers (n ∷ []) 0 (w / 256) within) ∙ kept (slice_index numbers (w / 256)) (w % 256) (test w) (right w within) in
    let here : w / 256 ≡ length numbers → page_says more (slice_index (numbers ++ n ∷ []) (w / 256)) (w % 256) ≡ Some (test w) = λ is.
    let at : length numbers * 256 + w % 256 ≡ w = omega arith in
    ap (λ m. page_says more m (w % 256)) (ap (slice_index (numbers ++ n ∷ [])) is ∙ get_or-append_seam numbers n [] 0) ∙ says (w % 256) low ∙ ap (λ v. Some (test v)) at in
    let longer : length (numbers ++ n ∷ []) ≡ length numbers + 1 = length-append numbers (n ∷ []) in
    let Q : Bool → Type 0 = λ b. nat_lt (w / 256) (length numbers) ≡ b → page_says more (slice_index (numbers ++ n ∷ []) (w / 256)) (w % 256) ≡ Some (test w) in
    (elim (nat_lt (w / 256) (length numbers)) as Q [
      | true ↦ λ is. old (grind (arith, nat_tests))
      | false ↦ λ is. here (grind (arith, nat_tests))
    ]) refl

-- what a page of bits says, as code tests it
pub bits_say : (pages : List Page) (page : Page) (n k : ℕ) → 2 ≤ n → n - 2 < length pages → page ≡ get_or pages (n - 2) page
    → Some (nat_eq (bit_and (slice_index page (k / 64) / 2 ^ (k % 64)) 1) 1) ≡ page_says pages n k
bits_say pages page n k above within is =
    let not_whole : nat_lt n 2 ≡ false = grind (arith, nat_tests) in
    let there : slice_get pages (n - 2) ≡ Some page = slice_get_read pages (length pages) (n - 2) page refl within is in
    ap Some (bit_test (slice_index page (k / 64)) (k % 64))
    ∙ sym (ap (option_map (λ p. in_page p k)) there)
    ∙ sym (ap (λ less. cond less (Some (nat_eq n 1)) (option_map (λ p. in_page p k) (slice_get pages (n - 2)))) not_whole)
