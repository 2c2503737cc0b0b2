-- What commands print, on small examples.
use Rattle.std.proofs.Common.{◌≡◌, ℕ, List, [], ◌∷◌, ◌++◌, length, take, true, Some, None, Ok, Err, refl}
use Rattle.std.specs.Prelude.{codes}
use Rattle.std.specs.Fmt.{digits}
use Rattle.langinfo.specs.declared.field.ConvText.TheVariants.{Bytes, Sizes}
use Rattle.script_words.specs.Tables.{items_table}
use Rattle.tool_reads.specs.Answers.{WrongWord, NoAnswer, Defined, each_of}
use Rattle.tool_reads.specs.Printed.{item_names, field, number_field, sizes_text, text_lines, number_lines, conv_lines, zeros, class_text}

-- without words each item of the table is printed, in its order
first_items : take 3 item_names ≡ codes "CODESET" ∷ codes "RADIXCHAR" ∷ codes "THOUSEP" ∷ []
unfolding items_table
first_items = refl

all_items : length item_names ≡ 55
unfolding items_table
all_items = refl

a_field : field (codes "decimal_point") (codes "\",\"") ≡ codes "decimal_point=\",\"" ++ 10 ∷ []
unfolding field
a_field = refl

an_absent_field : number_field (codes "wday") None ≡ []
an_absent_field = refl

no_sizes : sizes_text [] ≡ []
no_sizes = refl

-- a line for each field, the texts first
all_fields : conv_lines (record { texts = (codes "a", Bytes (codes ".")) ∷ (codes "b", Sizes (3 ∷ 127 ∷ [])) ∷ []; numbers = (codes "c", 2) ∷ [] })
    ≡ codes "a=\".\"" ++ 10 ∷ codes "b=3;127" ++ 10 ∷ codes "c=2" ++ 10 ∷ []
unfolding conv_lines text_lines number_lines field digits
all_fields = refl

-- `U+E9` is the name U00E9, `U+1F600` the name U0001F600
zeros_of_two : zeros 2 ≡ 48 ∷ 48 ∷ []
zeros_of_two = refl

zeros_of_five : zeros 5 ≡ 48 ∷ 48 ∷ 48 ∷ []
zeros_of_five = refl

a_class : class_text (codes "A") (Some true) ≡ Ok (codes "A yes" ++ 10 ∷ [])
a_class = refl

no_class : class_text (codes "A") None ≡ Err NoAnswer
no_class = refl

-- one-byte words alone
abbrev short : List ℕ → Defined (List ℕ)
short [] = Ok []
short (c ∷ []) = Ok (c ∷ [])
short (c ∷ d ∷ cs) = Err WrongWord

two_words : each_of short ((1 ∷ []) ∷ (2 ∷ []) ∷ []) ≡ Ok (1 ∷ 2 ∷ [])
two_words = refl

-- one wrong word, and nothing is printed
wrong_behind_right : each_of short ((1 ∷ []) ∷ (1 ∷ 1 ∷ []) ∷ []) ≡ Err WrongWord
wrong_behind_right = refl
