-- The header and the connection header behind it are laid as one.
use mathlib.Core.List.{List, [], ◌∷◌}
use mathlib.Core.Path.{ap, ◌∙◌}
use Prim.Native.Nat.{ℕ}
use Rattle.knxnetip.specs.Header.{header_of}
use Rattle.octets.proofs.Room.{laid_then}
use Rattle.octets.specs.Room.{laid}
use Rattle.tunnelling.proofs.lay_head.Goals as goal

pub returns : goal.returns
returns c =
    let a = c.args in
    let behind = 0x04 ∷ a.channel ∷ a.counter ∷ a.status ∷ [] in
    c.lay.ensures ∙ ap (λ (r : List ℕ). laid behind 6 r) c.lay_header.ensures ∙ laid_then (header_of a.service a.total) behind 0 a.room.now c.requires
