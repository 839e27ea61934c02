-- Document 01: "Order, TP1: no octet (1), control (2), fewer than 6 (standard) or 7 (extended) octets (1), 3, 4, 1, 5, 6."
use Rattle.std.specs.Prelude.{ℕ, ◌+◌, ◌-◌, ◌%◌, List, [], ◌∷◌, Bool, cond, not, ◌&&◌, length, take, drop, ltb, eqb, Result, Ok, Err}
use Rattle.octets.specs.Octets.{octet_at}
use Rattle.octets.specs.Word.{word_at}
use Rattle.octets.specs.Check.{check_octet}
use Rattle.frame.specs.declared.Meaning.{Meaning}
use Rattle.frame.specs.declared.Refusal.TheVariants.{TooFew, NotData, OtherFormat, Escape, LeftOver, WrongCheck}
use Rattle.frame.specs.Order.{Test, ◌gives◌, first_of, answer_by}
use Rattle.frame.specs.Fields.{is_control, meaning_of, fields_meaning}
use Rattle.tp1.specs.Layout.{head_of}
use Rattle.frame.specs.declared.Refusal.{Refusal}

-- "Bit 7: 1 standard, 0 extended"
unfoldable pub is_extended : List ℕ → Bool
is_extended s = ltb (octet_at s 0) 128

-- the octets up to and with LG
unfoldable pub head_size : List ℕ → ℕ
head_size s = head_of (is_extended s)

-- "EFF not 0000"
unfoldable pub is_other_format : List ℕ → Bool
is_other_format s = is_extended s && not (eqb (octet_at s 1 % 16) 0)

-- "LG octet 255"
unfoldable pub is_escape : List ℕ → Bool
is_escape s = is_extended s && eqb (octet_at s 6) 255

-- "8 + LG octets", "9 + LG octets"
unfoldable pub frame_size : List ℕ → ℕ
frame_size s = cond (is_extended s) (9 + octet_at s 6) (8 + octet_at s 5 % 16)

-- the last octet is the check octet of all before it
unfoldable pub is_checked : List ℕ → Bool
is_checked s = eqb (octet_at s (length s - 1)) (check_octet (take (length s - 1) s))

-- what the octets mean as a frame
unfoldable pub meaning_in : List ℕ → Meaning
meaning_in s =
    cond (is_extended s)
    (fields_meaning s)
    (meaning_of (octet_at s 0) (octet_at s 5) (word_at s 1) (word_at s 3))

abbrev pub tp1_tests : List ℕ → List Test
tp1_tests s =
    eqb (length s) 0 gives TooFew
    ∷ not (is_control (octet_at s 0)) gives NotData
    ∷ ltb (length s) (head_size s) gives TooFew
    ∷ is_other_format s gives OtherFormat
    ∷ is_escape s gives Escape
    ∷ ltb (length s) (frame_size s) gives TooFew
    ∷ ltb (frame_size s) (length s) gives LeftOver
    ∷ not (is_checked s) gives WrongCheck
    ∷ []

unfoldable pub read_tp1 : List ℕ → Result Meaning Refusal
read_tp1 s = answer_by Err (Ok (meaning_in s)) (first_of (tp1_tests s))

-- "payload (TPCI onward ..)": between the head and the check octet. "With a refusal both are empty."
abbrev pub payload_in : Result Meaning Refusal → List ℕ → List ℕ
payload_in (Ok m) s = take (length s - 1 - head_of m.extended) (drop (head_of m.extended) s)
payload_in (Err r) s = []

-- where that part starts; an empty one, at the start
abbrev pub payload_at : Result Meaning Refusal → List ℕ → ℕ
payload_at (Ok m) s = cond (ltb (head_of m.extended) (length s)) (head_of m.extended) 0
payload_at (Err r) s = 0
