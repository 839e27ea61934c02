-- Requests and acknowledgements taken apart: their lengths, and how a request comes to stand in a room.
use Rattle.std.specs.Prelude.{Result, Ok}
use Prim.Native.Nat.{ℕ, ◌+◌, ◌-◌, ◌≤◌}
use mathlib.Core.Bool.{Bool, true}
use mathlib.Core.List.{List, ◌++◌}
use mathlib.Core.Path.{◌≡◌, refl, ap}
use native.Mathlib.Omega.{arith}
use lib.ListN.{length, take, drop}
use borrow.Rule.Slice.PartMut.{put_mid}
use Rattle.cemi.proofs.LayoutLaws.{length-plain}
use Rattle.cemi.specs.Layout.{plain}
use Rattle.cemi.specs.declared.Message.{Message}
use Rattle.frame.proofs.Writing.{head-put, head-room}
use Rattle.frame.specs.Writing.{Wrote}
use Rattle.octets.specs.Room.{laid, over}
use Rattle.tunnelling.specs.Layout.{request_service, connected_head, connected, request_octets, acknowledgement_octets}
use Rattle.tunnelling.specs.declared.Acknowledgement.{Acknowledgement}
use Rattle.frame.specs.declared.Refusal.{Refusal}

module _ (k n : ℕ) (x : Message) (p : List ℕ) where
  pub length-request : length (request_octets k n x p) ≡ 19 + length p
  unfolding request_octets connected
  length-request = rw (length-plain x p) (omega arith)

  pub request-split : request_octets k n x p ≡ connected_head request_service (19 + length p) k n 0 ++ plain x p
  unfolding request_octets connected
  request-split =
      let e : 10 + length (plain x p) ≡ 19 + length p = rw (length-plain x p) (omega arith) in
      ap (λ (t : ℕ). connected_head request_service t k n 0 ++ plain x p) e

  module _ (room : List ℕ) {ranged : Bool} {w : Result ℕ Refusal} {r₁ r₂ : List ℕ} where
    -- the message fits behind the head ..
    pub request-put : ranged ≡ true → 19 + length p ≤ length room
        → r₁ ≡ laid (connected_head request_service (19 + length p) k n 0) 0 room
        → Wrote ranged (plain x p) (take (length r₁ - 10) (drop 10 r₁)) w r₂
        → w ≡ Ok (length (plain x p))
    request-put e h e₁ y =
        let H : List ℕ = connected_head request_service (19 + length p) k n 0 in
        let fits : length H + length (plain x p) ≤ length room = rw (length-plain x p) (omega arith) in
        head-put H (plain x p) room e fits e₁ y

    -- .. and both are the request over the room
    pub request-room : ranged ≡ true → 19 + length p ≤ length room
        → r₁ ≡ laid (connected_head request_service (19 + length p) k n 0) 0 room
        → Wrote ranged (plain x p) (take (length r₁ - 10) (drop 10 r₁)) w r₂
        → put_mid 10 (length r₁ - 10) r₁ r₂ ≡ over (request_octets k n x p) room
    request-room e h e₁ y =
        let H : List ℕ = connected_head request_service (19 + length p) k n 0 in
        let fits : length H + length (plain x p) ≤ length room = rw (length-plain x p) (omega arith) in
        rw request-split (head-room H (plain x p) room e fits e₁ y)

pub length-acknowledgement : (a : Acknowledgement) → length (acknowledgement_octets a) ≡ 10
unfolding acknowledgement_octets connected
length-acknowledgement a = refl
