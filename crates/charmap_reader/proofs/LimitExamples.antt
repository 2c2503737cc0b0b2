-- Numbers of names, and names that are given twice, tried on small examples.
use Rattle.std.proofs.Common.{◌≡◌, ℕ, List, [], ◌∷◌, length, map, None, Ok, Err, codes, refl}
use Rattle.lc_base.specs.declared.place.Place.{Place}
use Rattle.lc_base.specs.declared.reason.Reason.TheVariants.{NameTwice, OverLimit}
use Rattle.lc_base.specs.declared.reason.Limit.TheVariants.{Names}
use Rattle.lc_base.specs.Reading.{Reads}
use Rattle.src_lines.specs.Atoms.{items_from}
use Rattle.src_lines.specs.Tokens.{run}
use Rattle.src_lines.specs.Fields.{field, fields}
use Rattle.charset.specs.Portable.{portable_code}
use Rattle.charset.specs.Numbering.{padded}
use Rattle.charset.specs.Entries.{Entry}
use Rattle.charmap_reader.specs.Charmap.{counted_at, listed_at, mapping}

at : ℕ → ℕ → Place
at line column = record { line = line; column = column }

-- the entries after a line of a body, where these were given before
row : List Entry → List ℕ → Reads (List Entry)
row given bytes = mapping given (record { signs = record { escape = 92; comment = 35 }; line = 2; bytes = bytes; joins = [] })

-- ---- how many names there are at most

-- 65537 names are too many, and so are 65536 beside one
too_many : map (row []) (codes "<q00000>...<q65536> \\x01\\x00\\x00\\x00" ∷ codes "<q1>...<q65537> \\x01\\x00\\x00\\x00" ∷ []) ≡ Err (at 2 1, OverLimit Names) ∷ Err (at 2 1, OverLimit Names) ∷ []
unfolding row mapping fields field run items_from padded portable_code at
too_many = refl

one_too_many : row ((codes "e", 101 ∷ []) ∷ []) (codes " <q00000>...<q65535> \\x01\\x00\\x00\\x00") ≡ Err (at 2 2, OverLimit Names)
unfolding row mapping fields field run items_from padded portable_code at
one_too_many = refl

-- one beside 65535 is not, and one beside 65536 is
last_name : (given : List Entry) → length given ≡ 65535 → counted_at (at 2 1) (at 2 5) given (record { first = codes "q"; last = None }) (128 ∷ []) 0 ≡ listed_at (at 2 1) given ((codes "q", 128 ∷ []) ∷ [])
last_name given full = rw full refl

no_name_more : (given : List Entry) → length given ≡ 65536 → counted_at (at 2 1) (at 2 5) given (record { first = codes "q"; last = None }) (128 ∷ []) 0 ≡ Err (at 2 1, OverLimit Names)
no_name_more given full = rw full refl

-- ---- names that are given twice

-- a range has its names alone: those between its ends, in as many digits as the first, or more where needed
met : map (λ (name : List ℕ). row ((name, 101 ∷ []) ∷ []) (codes "<q8>...<q11> \\x80")) (codes "q8" ∷ codes "q9" ∷ codes "q10" ∷ codes "q11" ∷ [])
    ≡ Err (at 2 1, NameTwice) ∷ Err (at 2 1, NameTwice) ∷ Err (at 2 1, NameTwice) ∷ Err (at 2 1, NameTwice) ∷ []
unfolding row mapping fields field run items_from padded portable_code at
met = refl

beside : map (λ (name : List ℕ). row ((name, 101 ∷ []) ∷ []) (codes "<q9>...<q10> \\x80")) (codes "q8" ∷ codes "q09" ∷ codes "q010" ∷ codes "q11" ∷ codes "q" ∷ codes "9" ∷ [])
    ≡ map (λ (name : List ℕ). Ok ((name, 101 ∷ []) ∷ (codes "q9", 128 ∷ []) ∷ (codes "q10", 129 ∷ []) ∷ [])) (codes "q8" ∷ codes "q09" ∷ codes "q010" ∷ codes "q11" ∷ codes "q" ∷ codes "9" ∷ [])
unfolding row mapping fields field run items_from padded portable_code
beside = refl

-- a name is found twice in two ranges that meet, also where they begin with other numbers of digits
ranges : map (row ((codes "q9", 128 ∷ []) ∷ (codes "q10", 129 ∷ []) ∷ [])) (codes "<q10>...<q12> \\x90" ∷ codes "<q7>...<q9> \\x90" ∷ codes "<q010>...<q011> \\x90" ∷ [])
    ≡ Err (at 2 1, NameTwice) ∷ Err (at 2 1, NameTwice) ∷ Ok ((codes "q9", 128 ∷ []) ∷ (codes "q10", 129 ∷ []) ∷ (codes "q010", 144 ∷ []) ∷ (codes "q011", 145 ∷ []) ∷ []) ∷ []
unfolding row mapping fields field run items_from padded portable_code at
ranges = refl
