-- Document 01, "Frame layouts": a TP1 frame is the list of its octets.
use Rattle.std.specs.Prelude.{ℕ, ◌-◌, List, [], ◌∷◌, ◌++◌, Bool, cond, length}
use Rattle.octets.specs.Word.{high, low}
use Rattle.octets.specs.Check.{check_octet}
use Rattle.frame.specs.declared.Meaning.{Meaning}
use Rattle.frame.specs.Fields.{control_of, ctrle_of, fields_of}

-- "Standard, 8 + LG octets: control, source (2), destination (2), one octet of AT (bit 7), hop count (bits 6 to 4) and LG (bits 3 to 0), .."
abbrev pub standard_head : Meaning → ℕ → List ℕ
standard_head m lg =
    control_of m
    ∷ high m.source
    ∷ low m.source
    ∷ high m.destination
    ∷ low m.destination
    ∷ ctrle_of m lg
    ∷ []

-- "Extended, 9 + LG octets: control, CTRLE, source, destination, LG, .."
abbrev pub extended_head : Meaning → ℕ → List ℕ
extended_head m lg = control_of m ∷ fields_of m lg

unfoldable pub head : Meaning → ℕ → List ℕ
head m lg = cond m.extended (extended_head m lg) (standard_head m lg)

-- how many octets that is
abbrev pub head_of : Bool → ℕ
head_of extended = cond extended 7 6

-- octets with the check octet of all before it
unfoldable pub sealed : List ℕ → List ℕ
sealed s = s ++ (check_octet s ∷ [])

-- ".., TPCI, LG octets, check": the payload is TPCI onward, so LG is one less than its length
unfoldable pub tp1_octets : Meaning → List ℕ → List ℕ
tp1_octets m p = sealed (head m (length p - 1) ++ p)
