-- Who may pass: the one place that knows about codes. The step asks it of a frame, the tracer of a query.
use Rattle.std.specs.Prelude.{ℕ, ◌-◌, ◌*◌, ◌/◌, ◌%◌, ◌^◌, List, [], ◌∷◌, Bool, true, false, cond, not, ◌&&◌, ◌||◌, eqb}
use Rattle.octets.specs.Octets.{octet_at}
use Rattle.passing.specs.declared.Passage.{Passage}
use Rattle.passing.specs.declared.Passage.TheVariants.{Passes, NotFitted, OwnAddress, Closed, NotInTable, NotBelow, NotAbove, UsedUp}
use Rattle.passing.specs.Settings.{code_in, class_of}

-- "whose own address is n followed by 00h"; "A frame with AT 0 to the coupler's own address is for itself"
unfoldable pub is_own : ℕ → ℕ → ℕ → Bool
is_own line kind destination = eqb kind 0 && eqb destination (line * 256)

-- "forward if bit g mod 8 of octet g div 8 in the 8,192-octet filter table is one"
abbrev pub table_octet : ℕ → ℕ
table_octet g = g / 8

abbrev pub table_bit : ℕ → ℕ
table_bit g = g % 8

unfoldable pub is_in_table : List ℕ → ℕ → Bool
is_in_table table g = eqb (octet_at table (table_octet g) / 2 ^ table_bit g % 2) 1

-- "where n mod 16 is not 0, down if the destination's high octet is n ..; otherwise down if the destination's area is the coupler's area"
unfoldable pub is_below : ℕ → ℕ → Bool
is_below line destination = cond (eqb (line % 16) 0) (eqb (destination / 4096) (line / 16)) (eqb (destination / 256) line)

-- for individual addresses "down if .. is .., up if it isn't"
unfoldable pub is_onward : ℕ → ℕ → ℕ → Bool
is_onward line direction destination = cond (eqb direction 0) (is_below line destination) (not (is_below line destination))

-- what code 1 says of a class: of individual addresses where they lie, of the two classes of groups the table, which broadcast never asks
unfoldable pub is_ruled : ℕ → List ℕ → ℕ → ℕ → ℕ → Bool
is_ruled line table direction class destination =
    cond (eqb class 0) (is_onward line direction destination) ((eqb class 2 || eqb class 3) && is_in_table table destination)

-- the code of the direction and of the address's class decides: "Code 0 is closed, 2 open."; "A frame .. to the coupler's own address is ..
-- never forwarded, under any code."
unfoldable pub may_pass : ℕ → List (List ℕ) → List ℕ → ℕ → ℕ → ℕ → Bool
may_pass line codes table direction kind destination =
    let class = class_of kind destination in
    let code = code_in codes direction class in
    not (is_own line kind destination) && (eqb code 2 || (eqb code 1 && is_ruled line table direction class destination))

-- the hop rule's exception: whether a coupler leaves a count as it is
abbrev pub stays : ℕ → Bool
stays count = eqb count 7

-- the hop rule: 0 stops, 1 to 6 drop by one, 7 stays
abbrev pub hopped : ℕ → ℕ
hopped count = cond (stays count) 7 (count - 1)

-- what code 1 misses: the address below the coupler, above it, in its table
unfoldable pub ruled_out : ℕ → ℕ → Passage
ruled_out direction class = cond (eqb class 0) (cond (eqb direction 0) NotBelow NotAbove) NotInTable

infix 70 ◌because◌
-- a reason not to hand a telegram on, where it is true
pub data Cause : Type 0 where
  ◌because◌ : Bool → Passage → Cause

-- the first that is true
abbrev pub first_cause : List Cause → Passage
first_cause [] = Passes
first_cause (b because p ∷ cs) = cond b p (first_cause cs)

abbrev pub causes : ℕ → List (List ℕ) → List ℕ → ℕ → ℕ → ℕ → ℕ → List Cause
causes line codes table direction kind destination count =
    let class = class_of kind destination in
    let code = code_in codes direction class in
    is_own line kind destination because OwnAddress
    ∷ not (eqb code 1 || eqb code 2) because Closed
    ∷ (eqb code 1 && not (is_ruled line table direction class destination)) because ruled_out direction class
    ∷ eqb count 0 because UsedUp
    ∷ []

unfoldable pub passage_of : ℕ → List (List ℕ) → List ℕ → ℕ → ℕ → ℕ → ℕ → Passage
passage_of line codes table direction kind destination count = first_cause (causes line codes table direction kind destination count)

abbrev pub does_pass : Passage → Bool
does_pass Passes = true
does_pass NotFitted = false
does_pass OwnAddress = false
does_pass Closed = false
does_pass NotBelow = false
does_pass NotAbove = false
does_pass NotInTable = false
does_pass UsedUp = false
