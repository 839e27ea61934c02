-- What a telegram adds to the total. R-4 does not say which telegram carries an increment (docs/DECISIONS.md, H10): one that writes a two-octet
-- float to a group. Its payload is TPCI 00h (data to a group), APCI 80h (GroupValueWrite, its value in the octets behind it), and the two octets.
use Rattle.std.specs.Prelude.{ℕ, Bool, cond, ◌&&◌, List, eqb, length, Option, Some, None}
use Rattle.octets.specs.Octets.{octet_at}
use Rattle.octets.specs.Word.{word_at}

abbrev pub is_increment : List ℕ → Bool
is_increment payload = eqb (octet_at payload 0) 0x00 && eqb (octet_at payload 1) 0x80 && eqb (length payload) 4

unfoldable pub increment_in : List ℕ → Option ℕ
increment_in payload = cond (is_increment payload) (Some (word_at payload 2)) None
