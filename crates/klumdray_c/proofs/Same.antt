-- Each export asks and promises what the call of its name in the crate klumdray does: its contract, as the toolchain reads it off the source,
-- is that call's. So what is proved of those contracts is proved of the exports'. tools/make-surface writes this file.
use Prim.Native.Nat.{ℕ}
use mathlib.Core.List.{List}
use mathlib.Core.Path.{◌≡◌, refl}
use contract.Lifetimes.{Lfts}
use denote.Triple.Clauses.{AtExit}
use borrow.Fn.Kinds.{ParamKind, ResultKind, In, Out, Dens, res_t, ended_of}
use borrow.Fn.World.{World, Pr}
use Rattle.klumdray_c.proofs.klumdray_check_octet.Kinds as c-check-octet-kinds
use Rattle.klumdray_c.proofs.klumdray_check_octet.Reads as c-check-octet-reads
use Rattle.klumdray.proofs.klumdray_check_octet.Kinds as check-octet-kinds
use Rattle.klumdray.proofs.klumdray_check_octet.Reads as check-octet-reads
use Rattle.klumdray_c.proofs.klumdray_tp1_read.Kinds as c-tp1-read-kinds
use Rattle.klumdray_c.proofs.klumdray_tp1_read.Reads as c-tp1-read-reads
use Rattle.klumdray.proofs.klumdray_tp1_read.Kinds as tp1-read-kinds
use Rattle.klumdray.proofs.klumdray_tp1_read.Reads as tp1-read-reads
use Rattle.klumdray_c.proofs.klumdray_tp1_write.Kinds as c-tp1-write-kinds
use Rattle.klumdray_c.proofs.klumdray_tp1_write.Reads as c-tp1-write-reads
use Rattle.klumdray.proofs.klumdray_tp1_write.Kinds as tp1-write-kinds
use Rattle.klumdray.proofs.klumdray_tp1_write.Reads as tp1-write-reads
use Rattle.klumdray_c.proofs.klumdray_cemi_read.Kinds as c-cemi-read-kinds
use Rattle.klumdray_c.proofs.klumdray_cemi_read.Reads as c-cemi-read-reads
use Rattle.klumdray.proofs.klumdray_cemi_read.Kinds as cemi-read-kinds
use Rattle.klumdray.proofs.klumdray_cemi_read.Reads as cemi-read-reads
use Rattle.klumdray_c.proofs.klumdray_cemi_write.Kinds as c-cemi-write-kinds
use Rattle.klumdray_c.proofs.klumdray_cemi_write.Reads as c-cemi-write-reads
use Rattle.klumdray.proofs.klumdray_cemi_write.Kinds as cemi-write-kinds
use Rattle.klumdray.proofs.klumdray_cemi_write.Reads as cemi-write-reads
use Rattle.klumdray_c.proofs.klumdray_routing_read.Kinds as c-routing-read-kinds
use Rattle.klumdray_c.proofs.klumdray_routing_read.Reads as c-routing-read-reads
use Rattle.klumdray.proofs.klumdray_routing_read.Kinds as routing-read-kinds
use Rattle.klumdray.proofs.klumdray_routing_read.Reads as routing-read-reads
use Rattle.klumdray_c.proofs.klumdray_routing_write.Kinds as c-routing-write-kinds
use Rattle.klumdray_c.proofs.klumdray_routing_write.Reads as c-routing-write-reads
use Rattle.klumdray.proofs.klumdray_routing_write.Kinds as routing-write-kinds
use Rattle.klumdray.proofs.klumdray_routing_write.Reads as routing-write-reads
use Rattle.klumdray_c.proofs.klumdray_tunnelling_request_read.Kinds as c-tunnelling-request-read-kinds
use Rattle.klumdray_c.proofs.klumdray_tunnelling_request_read.Reads as c-tunnelling-request-read-reads
use Rattle.klumdray.proofs.klumdray_tunnelling_request_read.Kinds as tunnelling-request-read-kinds
use Rattle.klumdray.proofs.klumdray_tunnelling_request_read.Reads as tunnelling-request-read-reads
use Rattle.klumdray_c.proofs.klumdray_tunnelling_request_write.Kinds as c-tunnelling-request-write-kinds
use Rattle.klumdray_c.proofs.klumdray_tunnelling_request_write.Reads as c-tunnelling-request-write-reads
use Rattle.klumdray.proofs.klumdray_tunnelling_request_write.Kinds as tunnelling-request-write-kinds
use Rattle.klumdray.proofs.klumdray_tunnelling_request_write.Reads as tunnelling-request-write-reads
use Rattle.klumdray_c.proofs.klumdray_tunnelling_ack_read.Kinds as c-tunnelling-ack-read-kinds
use Rattle.klumdray_c.proofs.klumdray_tunnelling_ack_read.Reads as c-tunnelling-ack-read-reads
use Rattle.klumdray.proofs.klumdray_tunnelling_ack_read.Kinds as tunnelling-ack-read-kinds
use Rattle.klumdray.proofs.klumdray_tunnelling_ack_read.Reads as tunnelling-ack-read-reads
use Rattle.klumdray_c.proofs.klumdray_tunnelling_ack_write.Kinds as c-tunnelling-ack-write-kinds
use Rattle.klumdray_c.proofs.klumdray_tunnelling_ack_write.Reads as c-tunnelling-ack-write-reads
use Rattle.klumdray.proofs.klumdray_tunnelling_ack_write.Kinds as tunnelling-ack-write-kinds
use Rattle.klumdray.proofs.klumdray_tunnelling_ack_write.Reads as tunnelling-ack-write-reads
use Rattle.klumdray_c.proofs.klumdray_tunnelling_receive.Kinds as c-tunnelling-receive-kinds
use Rattle.klumdray_c.proofs.klumdray_tunnelling_receive.Reads as c-tunnelling-receive-reads
use Rattle.klumdray.proofs.klumdray_tunnelling_receive.Kinds as tunnelling-receive-kinds
use Rattle.klumdray.proofs.klumdray_tunnelling_receive.Reads as tunnelling-receive-reads
use Rattle.klumdray_c.proofs.klumdray_tunnelling_send.Kinds as c-tunnelling-send-kinds
use Rattle.klumdray_c.proofs.klumdray_tunnelling_send.Reads as c-tunnelling-send-reads
use Rattle.klumdray.proofs.klumdray_tunnelling_send.Kinds as tunnelling-send-kinds
use Rattle.klumdray.proofs.klumdray_tunnelling_send.Reads as tunnelling-send-reads
use Rattle.klumdray_c.proofs.klumdray_tunnelling_confirm.Kinds as c-tunnelling-confirm-kinds
use Rattle.klumdray_c.proofs.klumdray_tunnelling_confirm.Reads as c-tunnelling-confirm-reads
use Rattle.klumdray.proofs.klumdray_tunnelling_confirm.Kinds as tunnelling-confirm-kinds
use Rattle.klumdray.proofs.klumdray_tunnelling_confirm.Reads as tunnelling-confirm-reads
use Rattle.klumdray_c.proofs.klumdray_step.Kinds as c-step-kinds
use Rattle.klumdray_c.proofs.klumdray_step.Reads as c-step-reads
use Rattle.klumdray.proofs.klumdray_step.Kinds as step-kinds
use Rattle.klumdray.proofs.klumdray_step.Reads as step-reads
use Rattle.klumdray_c.proofs.klumdray_trace.Kinds as c-trace-kinds
use Rattle.klumdray_c.proofs.klumdray_trace.Reads as c-trace-reads
use Rattle.klumdray.proofs.klumdray_trace.Kinds as trace-kinds
use Rattle.klumdray.proofs.klumdray_trace.Reads as trace-reads
use Rattle.klumdray_c.proofs.klumdray_why.Kinds as c-why-kinds
use Rattle.klumdray_c.proofs.klumdray_why.Reads as c-why-reads
use Rattle.klumdray.proofs.klumdray_why.Kinds as why-kinds
use Rattle.klumdray.proofs.klumdray_why.Reads as why-reads
use Rattle.klumdray_c.proofs.klumdray_float_value.Kinds as c-float-value-kinds
use Rattle.klumdray_c.proofs.klumdray_float_value.Reads as c-float-value-reads
use Rattle.klumdray.proofs.klumdray_float_value.Kinds as float-value-kinds
use Rattle.klumdray.proofs.klumdray_float_value.Reads as float-value-reads
use Rattle.klumdray_c.proofs.klumdray_float_read.Kinds as c-float-read-kinds
use Rattle.klumdray_c.proofs.klumdray_float_read.Reads as c-float-read-reads
use Rattle.klumdray.proofs.klumdray_float_read.Kinds as float-read-kinds
use Rattle.klumdray.proofs.klumdray_float_read.Reads as float-read-reads
use Rattle.klumdray_c.proofs.klumdray_float_write.Kinds as c-float-write-kinds
use Rattle.klumdray_c.proofs.klumdray_float_write.Reads as c-float-write-reads
use Rattle.klumdray.proofs.klumdray_float_write.Kinds as float-write-kinds
use Rattle.klumdray.proofs.klumdray_float_write.Reads as float-write-reads
use Rattle.klumdray_c.proofs.klumdray_increment.Kinds as c-increment-kinds
use Rattle.klumdray_c.proofs.klumdray_increment.Reads as c-increment-reads
use Rattle.klumdray.proofs.klumdray_increment.Kinds as increment-kinds
use Rattle.klumdray.proofs.klumdray_increment.Reads as increment-reads
use Rattle.klumdray_c.proofs.klumdray_total_add.Kinds as c-total-add-kinds
use Rattle.klumdray_c.proofs.klumdray_total_add.Reads as c-total-add-reads
use Rattle.klumdray.proofs.klumdray_total_add.Kinds as total-add-kinds
use Rattle.klumdray.proofs.klumdray_total_add.Reads as total-add-reads
use Rattle.klumdray_c.proofs.klumdray_take.Kinds as c-take-kinds
use Rattle.klumdray_c.proofs.klumdray_take.Reads as c-take-reads
use Rattle.klumdray.proofs.klumdray_take.Kinds as take-kinds
use Rattle.klumdray.proofs.klumdray_take.Reads as take-reads

-- A contract: its parameters and its result; the claims that are read off it, on the parameters at entry, and on the result and the parameters at
-- exit; and the clauses themselves, at every model of the logic.
pub record Contract : Type 3 where
  pub lifetimes : ℕ
  pub params : List (ParamKind lifetimes)
  pub result : ResultKind lifetimes
  pub pre : In lifetimes params
  pub post : Out lifetimes params result
  pub requires : (κs : Lfts lifetimes) → Dens κs params → (w : World) → Pr w
  pub ensures : (κs : Lfts lifetimes) → Dens κs params → (res_t result κs).Denot → AtExit (ended_of lifetimes params result) κs → (w : World) → Pr w

pub check-octet-same : ◌≡◌ {A = Contract} (record { lifetimes = _; params = c-check-octet-kinds.ps; result = c-check-octet-kinds.r; pre = c-check-octet-reads.Pre; post = c-check-octet-reads.Post; requires = λ κs a. c-check-octet-reads.requires κs a tt; ensures = λ κs a. c-check-octet-reads.ensures κs a tt }) (record { lifetimes = _; params = check-octet-kinds.ps; result = check-octet-kinds.r; pre = check-octet-reads.Pre; post = check-octet-reads.Post; requires = λ κs a. check-octet-reads.requires κs a tt; ensures = λ κs a. check-octet-reads.ensures κs a tt })
check-octet-same = refl

pub tp1-read-same : ◌≡◌ {A = Contract} (record { lifetimes = _; params = c-tp1-read-kinds.ps; result = c-tp1-read-kinds.r; pre = c-tp1-read-reads.Pre; post = c-tp1-read-reads.Post; requires = λ κs a. c-tp1-read-reads.requires κs a tt; ensures = λ κs a. c-tp1-read-reads.ensures κs a tt }) (record { lifetimes = _; params = tp1-read-kinds.ps; result = tp1-read-kinds.r; pre = tp1-read-reads.Pre; post = tp1-read-reads.Post; requires = λ κs a. tp1-read-reads.requires κs a tt; ensures = λ κs a. tp1-read-reads.ensures κs a tt })
tp1-read-same = refl

pub tp1-write-same : ◌≡◌ {A = Contract} (record { lifetimes = _; params = c-tp1-write-kinds.ps; result = c-tp1-write-kinds.r; pre = c-tp1-write-reads.Pre; post = c-tp1-write-reads.Post; requires = λ κs a. c-tp1-write-reads.requires κs a tt; ensures = λ κs a. c-tp1-write-reads.ensures κs a tt }) (record { lifetimes = _; params = tp1-write-kinds.ps; result = tp1-write-kinds.r; pre = tp1-write-reads.Pre; post = tp1-write-reads.Post; requires = λ κs a. tp1-write-reads.requires κs a tt; ensures = λ κs a. tp1-write-reads.ensures κs a tt })
tp1-write-same = refl

pub cemi-read-same : ◌≡◌ {A = Contract} (record { lifetimes = _; params = c-cemi-read-kinds.ps; result = c-cemi-read-kinds.r; pre = c-cemi-read-reads.Pre; post = c-cemi-read-reads.Post; requires = λ κs a. c-cemi-read-reads.requires κs a tt; ensures = λ κs a. c-cemi-read-reads.ensures κs a tt }) (record { lifetimes = _; params = cemi-read-kinds.ps; result = cemi-read-kinds.r; pre = cemi-read-reads.Pre; post = cemi-read-reads.Post; requires = λ κs a. cemi-read-reads.requires κs a tt; ensures = λ κs a. cemi-read-reads.ensures κs a tt })
cemi-read-same = refl

pub cemi-write-same : ◌≡◌ {A = Contract} (record { lifetimes = _; params = c-cemi-write-kinds.ps; result = c-cemi-write-kinds.r; pre = c-cemi-write-reads.Pre; post = c-cemi-write-reads.Post; requires = λ κs a. c-cemi-write-reads.requires κs a tt; ensures = λ κs a. c-cemi-write-reads.ensures κs a tt }) (record { lifetimes = _; params = cemi-write-kinds.ps; result = cemi-write-kinds.r; pre = cemi-write-reads.Pre; post = cemi-write-reads.Post; requires = λ κs a. cemi-write-reads.requires κs a tt; ensures = λ κs a. cemi-write-reads.ensures κs a tt })
cemi-write-same = refl

pub routing-read-same : ◌≡◌ {A = Contract} (record { lifetimes = _; params = c-routing-read-kinds.ps; result = c-routing-read-kinds.r; pre = c-routing-read-reads.Pre; post = c-routing-read-reads.Post; requires = λ κs a. c-routing-read-reads.requires κs a tt; ensures = λ κs a. c-routing-read-reads.ensures κs a tt }) (record { lifetimes = _; params = routing-read-kinds.ps; result = routing-read-kinds.r; pre = routing-read-reads.Pre; post = routing-read-reads.Post; requires = λ κs a. routing-read-reads.requires κs a tt; ensures = λ κs a. routing-read-reads.ensures κs a tt })
routing-read-same = refl

pub routing-write-same : ◌≡◌ {A = Contract} (record { lifetimes = _; params = c-routing-write-kinds.ps; result = c-routing-write-kinds.r; pre = c-routing-write-reads.Pre; post = c-routing-write-reads.Post; requires = λ κs a. c-routing-write-reads.requires κs a tt; ensures = λ κs a. c-routing-write-reads.ensures κs a tt }) (record { lifetimes = _; params = routing-write-kinds.ps; result = routing-write-kinds.r; pre = routing-write-reads.Pre; post = routing-write-reads.Post; requires = λ κs a. routing-write-reads.requires κs a tt; ensures = λ κs a. routing-write-reads.ensures κs a tt })
routing-write-same = refl

pub tunnelling-request-read-same : ◌≡◌ {A = Contract} (record { lifetimes = _; params = c-tunnelling-request-read-kinds.ps; result = c-tunnelling-request-read-kinds.r; pre = c-tunnelling-request-read-reads.Pre; post = c-tunnelling-request-read-reads.Post; requires = λ κs a. c-tunnelling-request-read-reads.requires κs a tt; ensures = λ κs a. c-tunnelling-request-read-reads.ensures κs a tt }) (record { lifetimes = _; params = tunnelling-request-read-kinds.ps; result = tunnelling-request-read-kinds.r; pre = tunnelling-request-read-reads.Pre; post = tunnelling-request-read-reads.Post; requires = λ κs a. tunnelling-request-read-reads.requires κs a tt; ensures = λ κs a. tunnelling-request-read-reads.ensures κs a tt })
tunnelling-request-read-same = refl

pub tunnelling-request-write-same : ◌≡◌ {A = Contract} (record { lifetimes = _; params = c-tunnelling-request-write-kinds.ps; result = c-tunnelling-request-write-kinds.r; pre = c-tunnelling-request-write-reads.Pre; post = c-tunnelling-request-write-reads.Post; requires = λ κs a. c-tunnelling-request-write-reads.requires κs a tt; ensures = λ κs a. c-tunnelling-request-write-reads.ensures κs a tt }) (record { lifetimes = _; params = tunnelling-request-write-kinds.ps; result = tunnelling-request-write-kinds.r; pre = tunnelling-request-write-reads.Pre; post = tunnelling-request-write-reads.Post; requires = λ κs a. tunnelling-request-write-reads.requires κs a tt; ensures = λ κs a. tunnelling-request-write-reads.ensures κs a tt })
tunnelling-request-write-same = refl

pub tunnelling-ack-read-same : ◌≡◌ {A = Contract} (record { lifetimes = _; params = c-tunnelling-ack-read-kinds.ps; result = c-tunnelling-ack-read-kinds.r; pre = c-tunnelling-ack-read-reads.Pre; post = c-tunnelling-ack-read-reads.Post; requires = λ κs a. c-tunnelling-ack-read-reads.requires κs a tt; ensures = λ κs a. c-tunnelling-ack-read-reads.ensures κs a tt }) (record { lifetimes = _; params = tunnelling-ack-read-kinds.ps; result = tunnelling-ack-read-kinds.r; pre = tunnelling-ack-read-reads.Pre; post = tunnelling-ack-read-reads.Post; requires = λ κs a. tunnelling-ack-read-reads.requires κs a tt; ensures = λ κs a. tunnelling-ack-read-reads.ensures κs a tt })
tunnelling-ack-read-same = refl

pub tunnelling-ack-write-same : ◌≡◌ {A = Contract} (record { lifetimes = _; params = c-tunnelling-ack-write-kinds.ps; result = c-tunnelling-ack-write-kinds.r; pre = c-tunnelling-ack-write-reads.Pre; post = c-tunnelling-ack-write-reads.Post; requires = λ κs a. c-tunnelling-ack-write-reads.requires κs a tt; ensures = λ κs a. c-tunnelling-ack-write-reads.ensures κs a tt }) (record { lifetimes = _; params = tunnelling-ack-write-kinds.ps; result = tunnelling-ack-write-kinds.r; pre = tunnelling-ack-write-reads.Pre; post = tunnelling-ack-write-reads.Post; requires = λ κs a. tunnelling-ack-write-reads.requires κs a tt; ensures = λ κs a. tunnelling-ack-write-reads.ensures κs a tt })
tunnelling-ack-write-same = refl

pub tunnelling-receive-same : ◌≡◌ {A = Contract} (record { lifetimes = _; params = c-tunnelling-receive-kinds.ps; result = c-tunnelling-receive-kinds.r; pre = c-tunnelling-receive-reads.Pre; post = c-tunnelling-receive-reads.Post; requires = λ κs a. c-tunnelling-receive-reads.requires κs a tt; ensures = λ κs a. c-tunnelling-receive-reads.ensures κs a tt }) (record { lifetimes = _; params = tunnelling-receive-kinds.ps; result = tunnelling-receive-kinds.r; pre = tunnelling-receive-reads.Pre; post = tunnelling-receive-reads.Post; requires = λ κs a. tunnelling-receive-reads.requires κs a tt; ensures = λ κs a. tunnelling-receive-reads.ensures κs a tt })
tunnelling-receive-same = refl

pub tunnelling-send-same : ◌≡◌ {A = Contract} (record { lifetimes = _; params = c-tunnelling-send-kinds.ps; result = c-tunnelling-send-kinds.r; pre = c-tunnelling-send-reads.Pre; post = c-tunnelling-send-reads.Post; requires = λ κs a. c-tunnelling-send-reads.requires κs a tt; ensures = λ κs a. c-tunnelling-send-reads.ensures κs a tt }) (record { lifetimes = _; params = tunnelling-send-kinds.ps; result = tunnelling-send-kinds.r; pre = tunnelling-send-reads.Pre; post = tunnelling-send-reads.Post; requires = λ κs a. tunnelling-send-reads.requires κs a tt; ensures = λ κs a. tunnelling-send-reads.ensures κs a tt })
tunnelling-send-same = refl

pub tunnelling-confirm-same : ◌≡◌ {A = Contract} (record { lifetimes = _; params = c-tunnelling-confirm-kinds.ps; result = c-tunnelling-confirm-kinds.r; pre = c-tunnelling-confirm-reads.Pre; post = c-tunnelling-confirm-reads.Post; requires = λ κs a. c-tunnelling-confirm-reads.requires κs a tt; ensures = λ κs a. c-tunnelling-confirm-reads.ensures κs a tt }) (record { lifetimes = _; params = tunnelling-confirm-kinds.ps; result = tunnelling-confirm-kinds.r; pre = tunnelling-confirm-reads.Pre; post = tunnelling-confirm-reads.Post; requires = λ κs a. tunnelling-confirm-reads.requires κs a tt; ensures = λ κs a. tunnelling-confirm-reads.ensures κs a tt })
tunnelling-confirm-same = refl

pub step-same : ◌≡◌ {A = Contract} (record { lifetimes = _; params = c-step-kinds.ps; result = c-step-kinds.r; pre = c-step-reads.Pre; post = c-step-reads.Post; requires = λ κs a. c-step-reads.requires κs a tt; ensures = λ κs a. c-step-reads.ensures κs a tt }) (record { lifetimes = _; params = step-kinds.ps; result = step-kinds.r; pre = step-reads.Pre; post = step-reads.Post; requires = λ κs a. step-reads.requires κs a tt; ensures = λ κs a. step-reads.ensures κs a tt })
step-same = refl

pub trace-same : ◌≡◌ {A = Contract} (record { lifetimes = _; params = c-trace-kinds.ps; result = c-trace-kinds.r; pre = c-trace-reads.Pre; post = c-trace-reads.Post; requires = λ κs a. c-trace-reads.requires κs a tt; ensures = λ κs a. c-trace-reads.ensures κs a tt }) (record { lifetimes = _; params = trace-kinds.ps; result = trace-kinds.r; pre = trace-reads.Pre; post = trace-reads.Post; requires = λ κs a. trace-reads.requires κs a tt; ensures = λ κs a. trace-reads.ensures κs a tt })
trace-same = refl

pub why-same : ◌≡◌ {A = Contract} (record { lifetimes = _; params = c-why-kinds.ps; result = c-why-kinds.r; pre = c-why-reads.Pre; post = c-why-reads.Post; requires = λ κs a. c-why-reads.requires κs a tt; ensures = λ κs a. c-why-reads.ensures κs a tt }) (record { lifetimes = _; params = why-kinds.ps; result = why-kinds.r; pre = why-reads.Pre; post = why-reads.Post; requires = λ κs a. why-reads.requires κs a tt; ensures = λ κs a. why-reads.ensures κs a tt })
why-same = refl

pub float-value-same : ◌≡◌ {A = Contract} (record { lifetimes = _; params = c-float-value-kinds.ps; result = c-float-value-kinds.r; pre = c-float-value-reads.Pre; post = c-float-value-reads.Post; requires = λ κs a. c-float-value-reads.requires κs a tt; ensures = λ κs a. c-float-value-reads.ensures κs a tt }) (record { lifetimes = _; params = float-value-kinds.ps; result = float-value-kinds.r; pre = float-value-reads.Pre; post = float-value-reads.Post; requires = λ κs a. float-value-reads.requires κs a tt; ensures = λ κs a. float-value-reads.ensures κs a tt })
float-value-same = refl

pub float-read-same : ◌≡◌ {A = Contract} (record { lifetimes = _; params = c-float-read-kinds.ps; result = c-float-read-kinds.r; pre = c-float-read-reads.Pre; post = c-float-read-reads.Post; requires = λ κs a. c-float-read-reads.requires κs a tt; ensures = λ κs a. c-float-read-reads.ensures κs a tt }) (record { lifetimes = _; params = float-read-kinds.ps; result = float-read-kinds.r; pre = float-read-reads.Pre; post = float-read-reads.Post; requires = λ κs a. float-read-reads.requires κs a tt; ensures = λ κs a. float-read-reads.ensures κs a tt })
float-read-same = refl

pub float-write-same : ◌≡◌ {A = Contract} (record { lifetimes = _; params = c-float-write-kinds.ps; result = c-float-write-kinds.r; pre = c-float-write-reads.Pre; post = c-float-write-reads.Post; requires = λ κs a. c-float-write-reads.requires κs a tt; ensures = λ κs a. c-float-write-reads.ensures κs a tt }) (record { lifetimes = _; params = float-write-kinds.ps; result = float-write-kinds.r; pre = float-write-reads.Pre; post = float-write-reads.Post; requires = λ κs a. float-write-reads.requires κs a tt; ensures = λ κs a. float-write-reads.ensures κs a tt })
float-write-same = refl

pub increment-same : ◌≡◌ {A = Contract} (record { lifetimes = _; params = c-increment-kinds.ps; result = c-increment-kinds.r; pre = c-increment-reads.Pre; post = c-increment-reads.Post; requires = λ κs a. c-increment-reads.requires κs a tt; ensures = λ κs a. c-increment-reads.ensures κs a tt }) (record { lifetimes = _; params = increment-kinds.ps; result = increment-kinds.r; pre = increment-reads.Pre; post = increment-reads.Post; requires = λ κs a. increment-reads.requires κs a tt; ensures = λ κs a. increment-reads.ensures κs a tt })
increment-same = refl

pub total-add-same : ◌≡◌ {A = Contract} (record { lifetimes = _; params = c-total-add-kinds.ps; result = c-total-add-kinds.r; pre = c-total-add-reads.Pre; post = c-total-add-reads.Post; requires = λ κs a. c-total-add-reads.requires κs a tt; ensures = λ κs a. c-total-add-reads.ensures κs a tt }) (record { lifetimes = _; params = total-add-kinds.ps; result = total-add-kinds.r; pre = total-add-reads.Pre; post = total-add-reads.Post; requires = λ κs a. total-add-reads.requires κs a tt; ensures = λ κs a. total-add-reads.ensures κs a tt })
total-add-same = refl

pub take-same : ◌≡◌ {A = Contract} (record { lifetimes = _; params = c-take-kinds.ps; result = c-take-kinds.r; pre = c-take-reads.Pre; post = c-take-reads.Post; requires = λ κs a. c-take-reads.requires κs a tt; ensures = λ κs a. c-take-reads.ensures κs a tt }) (record { lifetimes = _; params = take-kinds.ps; result = take-kinds.r; pre = take-reads.Pre; post = take-reads.Post; requires = λ κs a. take-reads.requires κs a tt; ensures = λ κs a. take-reads.ensures κs a tt })
take-same = refl
