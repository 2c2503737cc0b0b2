-- Worked sources, line by line (XCU gencat).
use Rattle.std.specs.Prelude.{◌≡◌, ℕ, List, [], ◌∷◌, Some, None, Ok, Err, codes, refl}
use Rattle.lc_base.specs.declared.place.Place.{Place}
use Rattle.lc_base.specs.declared.reason.Reason.TheVariants.{BadMessage, OverLimit}
use Rattle.lc_base.specs.declared.reason.Limit.TheVariants.{Messages}
use Rattle.lc_base.specs.Reading.{Reads}
use Rattle.msg_catalog.specs.declared.book.Message.{Message}
use Rattle.msg_catalog.specs.declared.reader.Draft.{Draft}
use Rattle.msg_catalog.specs.Spots.{spot, spots}
use Rattle.msg_catalog.specs.Books.{text_at}
use Rattle.msg_catalog.specs.Messages.{put, messages}

-- a message of a set
abbrev said : ℕ → ℕ → List ℕ → Message
said set number text = record { set = set; number = number; text = text }

-- the first fault of a source
abbrev wrong : ℕ → ℕ → Reads (List Message)
wrong line column = Err (record { line = line; column = column }, BadMessage)

-- ---- logical lines

-- a line that ends in \ goes on in the next one, and each byte keeps its place
spots-joined : spots 5 1 (codes "a\\\nb\nc") ≡ spot 5 1 97 ∷ spot 6 1 98 ∷ spot 6 2 10 ∷ spot 7 1 99 ∷ []
spots-joined = refl

-- also where another \ stands before it
messages-joined : messages (codes "1 a\\\\\nd\n2 c") 1 ≡ Ok (said 1 1 (codes "ad") ∷ said 1 2 (codes "c") ∷ [])
unfolding messages
messages-joined = refl

-- at the end of a source a \ without a newline is dropped, and one with a newline goes on in nothing
messages-last_sign : messages (codes "1 a\\") 1 ≡ Ok (said 1 1 (codes "a") ∷ [])
unfolding messages
messages-last_sign = refl

messages-last_join : messages (codes "1 a\\\n") 1 ≡ Ok (said 1 1 (codes "a") ∷ [])
unfolding messages
messages-last_join = refl

-- a number goes on in the next line, too, and a fault is at the line's first byte
messages-number_joined : messages (codes "1\\\n2 a\n\\\nx") 1 ≡ wrong 4 1
unfolding messages
messages-number_joined = refl

-- ---- sets and messages

-- two sets, with a quote character
messages-greeting : messages (codes "$quote \"\n1 \"Hello\\n\"\n2 Bye\n$set 2\n1 Second\n") 1 ≡ Ok (said 1 1 (codes "Hello\n") ∷ said 1 2 (codes "Bye") ∷ said 2 1 (codes "Second") ∷ [])
unfolding messages
messages-greeting = refl

-- comments and empty lines say nothing
messages-comments : messages (codes "$\n$ a comment\n$\tanother\n\n1 a\n") 1 ≡ Ok (said 1 1 (codes "a") ∷ [])
unfolding messages
messages-comments = refl

-- messages are in the order of their numbers, and a later one takes the place of an earlier one
messages-replaced : messages (codes "7 a\n3 b\n7 c\n") 1 ≡ Ok (said 1 3 (codes "b") ∷ said 1 7 (codes "c") ∷ [])
unfolding messages
messages-replaced = refl

-- a number alone removes the message, and a blank behind it makes an empty one
messages-removed : messages (codes "1 a\n2 b\n3 c\n2\n1 \n9\n") 1 ≡ Ok (said 1 1 [] ∷ said 1 3 (codes "c") ∷ [])
unfolding messages
messages-removed = refl

-- $delset removes the messages of a set, and the set in force stays
messages-delset : messages (codes "1 a\n$set 2 two\n1 b\n$delset 1\n2 c\n$delset 9 none\n") 1 ≡ Ok (said 2 1 (codes "b") ∷ said 2 2 (codes "c") ∷ [])
unfolding messages
messages-delset = refl

-- numbers at their ends
messages-ends : messages (codes "$set  255\n32767\ta b \n") 1 ≡ Ok (said 255 32767 (codes "a b ") ∷ [])
unfolding messages
messages-ends = refl

set_over : messages (codes "$set 256") 1 ≡ wrong 1 1
unfolding messages
set_over = refl

set_none : messages (codes "1 a\n$set") 7 ≡ wrong 8 1
unfolding messages
set_none = refl

set_zero : messages (codes "$delset 0") 1 ≡ wrong 1 1
unfolding messages
set_zero = refl

set_leading : messages (codes "$set 01") 1 ≡ wrong 1 1
unfolding messages
set_leading = refl

set_behind : messages (codes "$set 1x") 1 ≡ wrong 1 1
unfolding messages
set_behind = refl

number_over : messages (codes "32768 a") 1 ≡ wrong 1 1
unfolding messages
number_over = refl

number_zero : messages (codes "0 a") 1 ≡ wrong 1 1
unfolding messages
number_zero = refl

number_behind : messages (codes "1x a") 1 ≡ wrong 1 1
unfolding messages
number_behind = refl

-- lines of no form
no_number : messages (codes "x1 Hello") 1 ≡ wrong 1 1
unfolding messages
no_number = refl

blanks_first : messages (codes "\n 1 a") 1 ≡ wrong 2 1
unfolding messages
blanks_first = refl

no_directive : messages (codes "$sets 1") 1 ≡ wrong 1 1
unfolding messages
no_directive = refl

-- ---- quote characters

-- a text in quotes keeps its blanks, what follows it is not read, and an open one ends with its line
messages-quoted : messages (codes "$quote '\n1 ' a 'b\n2 'c\n3 d'e\n4 ''\n$quote\n5 'f'\n") 1
    ≡ Ok (said 1 1 (codes " a ") ∷ said 1 2 (codes "c") ∷ said 1 3 (codes "d'e") ∷ said 1 4 [] ∷ said 1 5 (codes "'f'") ∷ [])
unfolding messages
messages-quoted = refl

-- behind a \ it is itself, but not behind two
messages-escaped_quote : messages (codes "$quote \"\n1 \"a\\\"b\\\\\"c\n") 1 ≡ Ok (said 1 1 (codes "a\"b\\") ∷ [])
unfolding messages
messages-escaped_quote = refl

quote_blank : messages (codes "$quote  \"\n$quote  \n1 \"a\"") 1 ≡ Ok (said 1 1 (codes "\"a\"") ∷ [])
unfolding messages
quote_blank = refl

quote_blanks : messages (codes "$quote\t \"\n1 \"a\"") 1 ≡ Ok (said 1 1 (codes "a") ∷ [])
unfolding messages
quote_blanks = refl

quote_two : messages (codes "$quote ab") 1 ≡ wrong 1 1
unfolding messages
quote_two = refl

quote_near : messages (codes "$quotea") 1 ≡ wrong 1 1
unfolding messages
quote_near = refl

-- ---- escapes

messages-controls : messages (codes "1 \\n\\t\\v\\b\\r\\f\\\\\\x") 1 ≡ Ok (said 1 1 (10 ∷ 9 ∷ 11 ∷ 8 ∷ 13 ∷ 12 ∷ 92 ∷ 120 ∷ []) ∷ [])
unfolding messages
messages-controls = refl

-- one to three octal digits are a byte
messages-octal : messages (codes "1 \\0\\129\\1011\\377\\778") 1 ≡ Ok (said 1 1 (0 ∷ 10 ∷ 57 ∷ 65 ∷ 49 ∷ 255 ∷ 63 ∷ 56 ∷ []) ∷ [])
unfolding messages
messages-octal = refl

-- over 255 they are wrong at the \, also in a line that goes on
octal_over : messages (codes "1 ab\\400") 1 ≡ wrong 1 5
unfolding messages
octal_over = refl

octal_joined : messages (codes "1 ab\\\nc\\7\\\n77\n") 1 ≡ wrong 2 2
unfolding messages
octal_joined = refl

-- the first fault of a source is given
first_octal : messages (codes "1 \\777 \\400\nx") 1 ≡ wrong 1 3
unfolding messages
first_octal = refl

-- ---- limits

abbrev full : Draft
full = record { set = 1; quote = None; texts = 4096; book = [] }

abbrev here : Place
here = record { line = 9; column = 1 }

put-full : put full here 1 (record { bytes = codes "a"; wrong = Some here }) ≡ Err (here, OverLimit Messages)
put-full = refl

put-last : put (record full { texts = 4095 }) here 1 (record { bytes = codes "a"; wrong = None }) ≡ Ok (record full { book = said 1 1 (codes "a") ∷ [] })
put-last = refl

-- ---- look-ups

text_at-there : text_at 2 1 (said 1 1 (codes "a") ∷ said 2 1 (codes "b") ∷ []) ≡ Some (codes "b")
text_at-there = refl

text_at-other : text_at 2 2 (said 1 1 (codes "a") ∷ said 2 1 (codes "b") ∷ []) ≡ None
text_at-other = refl
