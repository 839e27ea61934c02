-- The paper's numbers of the refusals: 1 to the last, and no two are the same.
use Rattle.std.specs.Prelude.{Option, Some, None}
use Prim.Native.Nat.{◌≤◌}
use mathlib.Core.Bool.{true, false, ◌&&◌}
use mathlib.Core.Path.{◌≡◌, refl, sym, ap, ◌∙◌}
use native.Mathlib.Omega.{arith}
use lib.Dec.{leb, eqb}
use borrow.Author.Tests.{leb-true, eqb-false, ne_eqb}
use Rattle.frame.specs.Answers.{refusal_of, refusal_number, refusal_in}
use Rattle.frame.specs.Refusals.{number, last_number}
use Rattle.frame.specs.declared.Refusal.TheVariants.{TooFew, NotData, OtherFormat, Escape, LeftOver, WrongCheck, OtherCode, InformationEscape, LongStandard, OtherHeader, OtherService, OtherLength, SmallRoom, OutOfRange, WrongSetting, WrongRecord, LineTwice, NoTable, OtherConnection, NotOpen, OtherCounter, Invalid, PastTotal}
use Rattle.frame.specs.declared.Refusal.{Refusal}
use Rattle.octets.proofs.Truth.{and-true}

-- A number is one of the table's, and is its row's: the one law here with a line for each refusal.
row : (r : Refusal) → (leb 1 (number r) && leb (number r) last_number ≡ true) × (refusal_of (number r) ≡ r)
row TooFew = (refl, refl)
row NotData = (refl, refl)
row OtherFormat = (refl, refl)
row Escape = (refl, refl)
row LeftOver = (refl, refl)
row WrongCheck = (refl, refl)
row OtherCode = (refl, refl)
row InformationEscape = (refl, refl)
row LongStandard = (refl, refl)
row OtherHeader = (refl, refl)
row OtherService = (refl, refl)
row OtherLength = (refl, refl)
row SmallRoom = (refl, refl)
row OutOfRange = (refl, refl)
row WrongSetting = (refl, refl)
row WrongRecord = (refl, refl)
row LineTwice = (refl, refl)
row NoTable = (refl, refl)
row OtherConnection = (refl, refl)
row NotOpen = (refl, refl)
row OtherCounter = (refl, refl)
row Invalid = (refl, refl)
row PastTotal = (refl, refl)

pub number-listed : (r : Refusal) → (1 ≤ number r) × (number r ≤ last_number)
number-listed r = let b = and-true _ _ (row r).0 in (leb-true 1 (number r) b.0, leb-true (number r) last_number b.1)

-- 22 is no row's: what stands in its place has another number
pub number-not-22 : (r : Refusal) → number r ≡ 22 → ⊥
number-not-22 r e =
    let there : r ≡ OtherCounter = sym (row r).1 ∙ ap refusal_of e in
    let z : number r ≡ 21 = ap number there in
    omega (arith, e, z)

-- a refusal's number is not 0
pub refused-number : (r : Refusal) → eqb (number r) 0 ≡ false
refused-number r = ne_eqb (number r) 0 (λ e. omega (arith, (number-listed r).0))

pub number-some : (r : Refusal) → number r ≡ 0 → ⊥
number-some r = eqb-false (number r) 0 (refused-number r)

-- the paper's numbers tell the refusals apart
pub number-apart : (q r : Refusal) → number q ≡ number r → q ≡ r
number-apart q r e = sym (row q).1 ∙ ap refusal_of e ∙ (row r).1

-- a refusal or none is read back from its number
pub refusal-back : (o : Option Refusal) → refusal_in (refusal_number o) ≡ o
refusal-back (Some r) = rw (refused-number r) (ap Some (row r).1)
refusal-back None = refl

pub refusal-most : (o : Option Refusal) → refusal_number o ≤ last_number
refusal-most (Some r) = (number-listed r).1
refusal-most None = omega arith
