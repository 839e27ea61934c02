-- Document 01, "Routing datagram: 06h, 10h, 0530h, total length (2), ..": the KNXnet/IP header, of whichever service is wanted.
use Rattle.std.specs.Prelude.{ℕ, List, [], ◌∷◌, Bool, not, ◌&&◌, length, ltb, eqb, Result}
use Rattle.octets.specs.Octets.{octet_at}
use Rattle.octets.specs.Word.{word_at, high, low}
use Rattle.frame.specs.declared.Refusal.TheVariants.{TooFew, OtherHeader, OtherService, OtherLength}
use Rattle.frame.specs.Order.{Test, ◌gives◌, first_of}
use Rattle.frame.specs.declared.Refusal.{Refusal}

abbrev pub header_of : ℕ → ℕ → List ℕ
header_of service total = 0x06 ∷ 0x10 ∷ high service ∷ low service ∷ high total ∷ low total ∷ []

-- "KNXnet/IP header length not 06h or version not 10h"
unfoldable pub is_other_header : List ℕ → Bool
is_other_header s = not (eqb (octet_at s 0) 0x06 && eqb (octet_at s 1) 0x10)

-- "Refusal 11 now names the service wanted by the call" (R-1)
unfoldable pub is_other_service : ℕ → List ℕ → Bool
is_other_service service s = not (eqb (word_at s 2) service)

-- "total length differs from the datagram's"
unfoldable pub is_other_length : List ℕ → Bool
is_other_length s = not (eqb (word_at s 4) (length s))

-- "Routing: fewer than 6 octets (1), 10, 11, 12, .."
abbrev pub header_tests : ℕ → List ℕ → List Test
header_tests service s =
    ltb (length s) 6 gives TooFew
    ∷ is_other_header s gives OtherHeader
    ∷ is_other_service service s gives OtherService
    ∷ is_other_length s gives OtherLength
    ∷ []

unfoldable pub read_header : ℕ → List ℕ → Result (Unit {0}) Refusal
read_header service s = first_of (header_tests service s)
