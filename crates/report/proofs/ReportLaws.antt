-- The tracer's answer and list, as the text that says them; and that the room has every text.
use Rattle.std.specs.Prelude.{Result, Ok, Err}
use Prim.Native.Nat.{ℕ, ◌+◌, ◌-◌, ◌*◌, ◌^◌, ◌≤◌, ◌<◌}
use mathlib.Core.Bool.{Bool, true, false}
use mathlib.Core.List.{List, [], ◌∷◌, ◌++◌}
use mathlib.Core.Logic.{◌↔◌}
use mathlib.Core.Path.{◌≡◌, refl, sym, ap, ◌∙◌, subst}
use native.Mathlib.Omega.{arith}
use lib.ListN.{length, take, drop, replicate, length-append, length-drop}
use lib.Seq.{take_at}
use borrow.Author.Tests.{ltb-true, lt-ltb, le-ltb}
use Rattle.frame.proofs.Apart.{err-ok, ok-one, err-one}
use Rattle.frame.specs.Refusals.{number}
use Rattle.frame.specs.Order.{first_of, answer_by, ◌gives◌}
use Rattle.frame.specs.declared.Refusal.TheVariants.{SmallRoom}
use Rattle.octets.proofs.Room.{laid-front}
use Rattle.octets.proofs.Split.{rest-is}
use Rattle.octets.specs.Octets.{Octets}
use Rattle.octets.specs.Room.{over}
use Rattle.report.proofs.Size.{length-told-line, length-list}
use Rattle.report.specs.Ascii.{ascii}
use Rattle.report.specs.Report.{query_in, site_in, no_stores, query_tests, answer_text, report_of, reported, Reported}
use Rattle.report.specs.Text.{told_line, list_text}
use Rattle.report.specs.Stages.{Fits, Puts}
use Rattle.tracer.proofs.ListLaws.{trace-three-each}
use Rattle.tracer.specs.Listing.{listed}
use Rattle.tracer.specs.Tracing.{traced_by, list_by, DidTrace}
use Rattle.tracer.specs.declared.Query.{Query}
use Rattle.tracer.specs.declared.Traced.{Traced}
use Rattle.frame.specs.declared.Refusal.{Refusal}

-- the room has the longest text

pub refused-fits : (n : ℕ) (room : List ℕ) → n < 256 → 8192 ≤ length room → Fits (told_line (ascii "refused ") n) 0 room
refused-fits n room h k = omega (arith, length-told-line (ascii "refused ") 2 n (omega arith))

pub listed-fits : (list : List ℕ) (n : ℕ) (room : List ℕ) → Octets list → length list ≤ 768 → n < 2 ^ 64 → 8192 ≤ length room
    → Fits (list_text list ++ told_line (ascii "forwardings ") n) 0 room
listed-fits list n room o l h k =
    rw length-append (omega (arith, length-list list o, length-told-line (ascii "forwardings ") 19 n (omega arith)))

-- what the tracer answered, said of what was read

module _ (s : List ℕ) where
  refused-text : {r : Refusal} (v : Result (Unit {0}) Refusal) → Err r ≡ traced_by no_stores (site_in s) (query_in s) v → told_line (ascii "refused ") (number r) ≡ answer_text s v
  unfolding answer_text
  refused-text (Ok _) e = err-ok e
  refused-text (Err r') e = ap (λ (r : Refusal). told_line (ascii "refused ") (number r)) (err-one e)

  pub record ListedText (t : Traced) (v : Result (Unit {0}) Refusal) (list : List ℕ) : Type 0 where
    pub within : t.lines * 3 ≤ length list
    pub told : list_text (take (t.lines * 3) list) ++ told_line (ascii "forwardings ") t.forwardings ≡ answer_text s v

  listed-text : {t : Traced} (room list : List ℕ) (v : Result (Unit {0}) Refusal) → Ok t ≡ traced_by no_stores (site_in s) (query_in s) v
      → list ≡ over (list_by no_stores (site_in s) (query_in s) v) room → length list ≡ length room → ListedText t v list
  unfolding answer_text
  listed-text {t} room list (Ok _) o l k =
      let L = listed no_stores (site_in s) (query_in s) in
      let e = ok-one o in
      let n : length L ≡ t.lines * 3 = trace-three-each no_stores (site_in s) (query_in s) ∙ ap (λ (x : Traced). x.lines * 3) (sym e) in
      let w : length list ≡ length L + (length room - length L) = ap length l ∙ rw (length-append, length-drop) in
      record {
        within = omega arith;
        told = rw (l, take_at L (drop (length L) room) (t.lines * 3) n) (ap (λ (x : Traced). list_text L ++ told_line (ascii "forwardings ") x.forwardings) e);
      }
  listed-text room list (Err r) e l k = err-ok (sym e)

-- the same of the call: the query and the site as they were read, and an array of 768 octets lent

module _ (s : List ℕ) {list : List ℕ} {answer : Result Traced Refusal} {q : Query} (e : q ≡ query_in s)
    (x : DidTrace no_stores (take (length s - 5) (drop 5 s)) q (replicate 768 0) answer list) where
  did : DidTrace no_stores (site_in s) (query_in s) (replicate 768 0) answer list
  did = rw (e, rest-is 5 s) at x

  pub traced-refused : {r : Refusal} → answer ≡ Err r → told_line (ascii "refused ") (number r) ≡ answer_text s (first_of (query_tests s))
  unfolding query_tests
  traced-refused h = refused-text s _ (sym h ∙ did.answered)

  pub traced-listed : {t : Traced} → answer ≡ Ok t → length list ≡ 768 → ListedText s t (first_of (query_tests s)) list
  unfolding query_tests
  traced-listed h l = listed-text s (replicate 768 0) list _ (sym h ∙ did.answered) did.left l

-- the tests in their order

pub report-few : (s : List ℕ) → length s < 5 → report_of s ≡ told_line (ascii "refused ") 1
unfolding report_of answer_text
report-few s h = rw (lt-ltb (length s) 5 h)

pub report-many : (s : List ℕ) → 3065 < length s → report_of s ≡ told_line (ascii "refused ") 5
unfolding report_of answer_text
report-many s h = rw (le-ltb (length s) 5 (omega arith), lt-ltb 3065 (length s) h)

pub report-traced : (s : List ℕ) → 5 ≤ length s → length s ≤ 3065 → report_of s ≡ answer_text s (first_of (query_tests s))
unfolding report_of
report-traced s h k = rw (le-ltb (length s) 5 h, le-ltb 3065 (length s) k)

pub puts-as : {a b : List ℕ} {at r : ℕ} {room after : List ℕ} → a ≡ b → Puts a at room r after → Puts b at room r after
puts-as {a} {b} {at} {r} {room} {after} e x = subst (λ (s : List ℕ). Puts s at room r after) e x

-- the writer's answer

pub unroomed : (s room : List ℕ) → length room < 8192 → Reported s room (Err SmallRoom) room
unfolding reported
unroomed s room h = record { answered = rw (lt-ltb (length room) 8192 h); left = refl }

pub roomed : (s room : List ℕ) {r : ℕ} {after : List ℕ} → 8192 ≤ length room → Puts (report_of s) 0 room r after → Reported s room (Ok r) after
unfolding reported
roomed s room {r} h x =
    let f : 0 + length (report_of s) ≤ length room = x.fits in
    let e : r ≡ 0 + length (report_of s) = x.ends in
    record { answered = rw (le-ltb (length room) 8192 h) (ap Ok (omega arith)); left = x.put ∙ laid-front (report_of s) room (omega arith) }

-- two outcomes that the contract allows coincide
pub reported-one : {s room : List ℕ} {r₁ r₂ : Result ℕ Refusal} {a₁ a₂ : List ℕ} → Reported s room r₁ a₁ → Reported s room r₂ a₂ → (r₁ ≡ r₂) × (a₁ ≡ a₂)
reported-one {s} {room} {r₁} {r₂} x y =
    let e : r₁ ≡ r₂ = x.answered ∙ sym y.answered in
    (e, x.left ∙ rw e (sym y.left))

-- 13 exactly if the room is too small
small : (b : Bool) (n : ℕ) → answer_by Err (Ok n) (first_of (b gives SmallRoom ∷ [])) ≡ Err SmallRoom → b ≡ true
small true n e = refl
small false n e = err-ok (sym e)

pub refused-13 : (s room : List ℕ) → reported s room ≡ Err SmallRoom ↔ (length room < 8192)
unfolding reported
refused-13 s room = ((λ e. ltb-true (length room) 8192 (small _ _ e)), λ h. rw (lt-ltb (length room) 8192 h))
