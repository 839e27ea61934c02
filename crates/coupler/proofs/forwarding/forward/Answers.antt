-- Either writer refuses nothing here: `sent-ip` and `sent-tp1`.
use Rattle.coupler.proofs.StepLaws.{sent-tp1, sent-ip}
use Rattle.coupler.proofs.forwarding.forward.Goals as goal
use Rattle.coupler.proofs.forwarding.forward.Goals.{then-ip, else-ip}

pub returns : goal.returns
returns c =
    let a = c.args in
    let meaning = c.forwarded_meaning-meaning in
    elim c.if-ip.branch [
      | then-ip w ↦ rw (w.if-ip.true, w.room-is) (sent-ip a.setting a.meaning a.payload.now a.room.now c.requires.0 c.requires.1 (rw (w.indication.ensures, meaning.ensures) at w.write-written.ensures) (rw w.written-is at c.unwrap_or.ensures))
      | else-ip w ↦ rw (w.if-ip.false, w.room-is) (sent-tp1 a.setting a.meaning a.payload.now a.room.now c.requires.0 c.requires.1 (rw meaning.ensures at w.write-written-else-ip.ensures) (rw w.written-is at c.unwrap_or.ensures))
    ]
