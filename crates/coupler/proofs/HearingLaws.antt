-- Meaning and payload that were heard apart are the frame that a step speaks of, on either medium.
use Rattle.std.specs.Prelude.{Result, Ok, Err}
use Prim.Native.Nat.{ℕ}
use mathlib.Core.Bool.{Bool, true, false}
use mathlib.Core.List.{List}
use mathlib.Core.Path.{◌≡◌, refl, sym, ap, subst}
use lib.ListN.{length}
use Rattle.octets.specs.Octets.{Octets}
use Rattle.frame.specs.declared.Meaning.{Meaning}
use Rattle.frame.specs.declared.Refusal.{Refusal}
use Rattle.frame.specs.Valid.{in_range}
use Rattle.frame.proofs.Apart.{err-ok}
use Rattle.routing.specs.Reading.{read_routing, routed_payload}
use Rattle.coupler.specs.Step.{frame, nothing, heard_tp1, heard_ip, read_by, indication}
use Rattle.coupler.specs.Hearing.{meaning_only, answer_on, payload_on}
use Rattle.coupler.proofs.StepLaws.{tp1-ranged, ip-ranged}
use Rattle.cemi.specs.declared.Message.{Message}

pub heard-frame : (ip : Bool) (s : List ℕ) (m : Meaning) → answer_on ip s ≡ Ok m → read_by ip s ≡ frame m (payload_on ip m s)
heard-frame true s m e = go (read_routing s) e
  where
    go : (a : Result Message Refusal) → meaning_only a ≡ Ok m → heard_ip a s ≡ frame m (routed_payload (Ok (indication m)) s)
    go (Ok x) z = let q : x.meaning ≡ m = cc in ap (λ (y : Meaning). frame y (routed_payload (Ok (indication m)) s)) q
    go (Err r) z = err-ok z
heard-frame false s m e = ap (λ (a : Result Meaning Refusal). heard_tp1 a s) e

pub heard-nothing : (ip : Bool) (s : List ℕ) (r : Refusal) → answer_on ip s ≡ Err r → read_by ip s ≡ nothing r
heard-nothing true s r e = go (read_routing s) e
  where
    go : (a : Result Message Refusal) → meaning_only a ≡ Err r → heard_ip a s ≡ nothing r
    go (Ok x) z = err-ok (sym z)
    go (Err q) z = let h : q ≡ r = cc in ap nothing h
heard-nothing false s r e = ap (λ (a : Result Meaning Refusal). heard_tp1 a s) e

-- what was heard is in range
pub heard-ranged : (ip : Bool) (s : List ℕ) (m : Meaning) → Octets s → answer_on ip s ≡ Ok m → in_range m (length (payload_on ip m s)) ≡ true
heard-ranged true s m o e = go (read_routing s) refl e
  where
    go : (a : Result Message Refusal) → read_routing s ≡ a → meaning_only a ≡ Ok m → in_range m (length (routed_payload (Ok (indication m)) s)) ≡ true
    go (Ok x) q z =
        let h : x.meaning ≡ m = cc in
        subst (λ (y : Meaning). in_range y (length (routed_payload (Ok (indication m)) s)) ≡ true) h (ip-ranged s x o q)
    go (Err r) q z = err-ok z
heard-ranged false s m o e = tp1-ranged s m o e
