-- Every public function: its contract determines its outcome, asks nothing of the caller, and leaves no clause out.
use mathlib.Core.Path.{refl, sym, ◌∙◌}
use Rattle.octets.proofs.Part.{part-one}
use Rattle.octets.proofs.Truth.{one_truth}
use Rattle.frame.proofs.Writing.{wrote_one}
use Rattle.channels.proofs.CallLaws.{called-one}
use Rattle.exchange.proofs.ReceivingLaws.{received-on-one, took_one}
use Rattle.exchange.proofs.SendingLaws.{sent-on-one, sent-one}
use Rattle.coupler.proofs.StepLaws.{handed-one, did-one}
use Rattle.site.proofs.LettingLaws.{both-ways-one}
use Rattle.site.proofs.Surveying.{survey-one}
use Rattle.tracer.proofs.ListedBy.{traced-one}
use Rattle.report.proofs.ReportLaws.{reported-one}
use Rattle.klumdray.proofs.Surface.{wrote-number-one, traced-through-one}
use Rattle.klumdray.proofs.BlockLaws.{stepped-one}
use Rattle.klumdray.proofs.LitresLaws.{added-through-one, took-frame-one}
use Rattle.klumdray.proofs.ChannelLaws.{took-through-one, sent-through-one, confirmed-through-one}
use Rattle.promises.proofs.Stated.{Stated, StatedBy, SamePart}
use Rattle.octets.proofs.octet.Kinds as octets-octet-kinds
use Rattle.octets.proofs.octet.Reads as octets-octet-reads
use Rattle.octets.proofs.word_at.Kinds as octets-word-at-kinds
use Rattle.octets.proofs.word_at.Reads as octets-word-at-reads
use Rattle.octets.proofs.high_octet.Kinds as octets-high-octet-kinds
use Rattle.octets.proofs.high_octet.Reads as octets-high-octet-reads
use Rattle.octets.proofs.low_octet.Kinds as octets-low-octet-kinds
use Rattle.octets.proofs.low_octet.Reads as octets-low-octet-reads
use Rattle.octets.proofs.flag.Kinds as octets-flag-kinds
use Rattle.octets.proofs.flag.Reads as octets-flag-reads
use Rattle.octets.proofs.check_octet.Kinds as octets-check-octet-kinds
use Rattle.octets.proofs.check_octet.Reads as octets-check-octet-reads
use Rattle.octets.proofs.are_same.Kinds as octets-are-same-kinds
use Rattle.octets.proofs.are_same.Reads as octets-are-same-reads
use Rattle.octets.proofs.lay.Kinds as octets-lay-kinds
use Rattle.octets.proofs.lay.Reads as octets-lay-reads
use Rattle.frame.proofs.Refusal.number.Kinds as frame-number-kinds
use Rattle.frame.proofs.Refusal.number.Reads as frame-number-reads
use Rattle.frame.proofs.control.Kinds as frame-control-kinds
use Rattle.frame.proofs.control.Reads as frame-control-reads
use Rattle.frame.proofs.ctrle.Kinds as frame-ctrle-kinds
use Rattle.frame.proofs.ctrle.Reads as frame-ctrle-reads
use Rattle.frame.proofs.meaning_of.Kinds as frame-meaning-of-kinds
use Rattle.frame.proofs.meaning_of.Reads as frame-meaning-of-reads
use Rattle.frame.proofs.fields_meaning.Kinds as frame-fields-meaning-kinds
use Rattle.frame.proofs.fields_meaning.Reads as frame-fields-meaning-reads
use Rattle.frame.proofs.in_range.Kinds as frame-in-range-kinds
use Rattle.frame.proofs.in_range.Reads as frame-in-range-reads
use Rattle.tp1.proofs.read.Kinds as tp1-read-kinds
use Rattle.tp1.proofs.read.Reads as tp1-read-reads
use Rattle.tp1.proofs.payload.Kinds as tp1-payload-kinds
use Rattle.tp1.proofs.payload.Reads as tp1-payload-reads
use Rattle.tp1.proofs.meaning_in.Kinds as tp1-meaning-in-kinds
use Rattle.tp1.proofs.meaning_in.Reads as tp1-meaning-in-reads
use Rattle.tp1.proofs.write.Kinds as tp1-write-kinds
use Rattle.tp1.proofs.write.Reads as tp1-write-reads
use Rattle.cemi.proofs.read.Kinds as cemi-read-kinds
use Rattle.cemi.proofs.read.Reads as cemi-read-reads
use Rattle.cemi.proofs.payload.Kinds as cemi-payload-kinds
use Rattle.cemi.proofs.payload.Reads as cemi-payload-reads
use Rattle.cemi.proofs.information.Kinds as cemi-information-kinds
use Rattle.cemi.proofs.information.Reads as cemi-information-reads
use Rattle.cemi.proofs.in_range.Kinds as cemi-in-range-kinds
use Rattle.cemi.proofs.in_range.Reads as cemi-in-range-reads
use Rattle.cemi.proofs.write.Kinds as cemi-write-kinds
use Rattle.cemi.proofs.write.Reads as cemi-write-reads
use Rattle.knxnetip.proofs.read_header.Kinds as knxnetip-read-header-kinds
use Rattle.knxnetip.proofs.read_header.Reads as knxnetip-read-header-reads
use Rattle.knxnetip.proofs.lay_header.Kinds as knxnetip-lay-header-kinds
use Rattle.knxnetip.proofs.lay_header.Reads as knxnetip-lay-header-reads
use Rattle.routing.proofs.read.Kinds as routing-read-kinds
use Rattle.routing.proofs.read.Reads as routing-read-reads
use Rattle.routing.proofs.payload.Kinds as routing-payload-kinds
use Rattle.routing.proofs.payload.Reads as routing-payload-reads
use Rattle.routing.proofs.information.Kinds as routing-information-kinds
use Rattle.routing.proofs.information.Reads as routing-information-reads
use Rattle.routing.proofs.write.Kinds as routing-write-kinds
use Rattle.routing.proofs.write.Reads as routing-write-reads
use Rattle.channels.proofs.Table.all_closed.Kinds as channels-all-closed-kinds
use Rattle.channels.proofs.Table.all_closed.Reads as channels-all-closed-reads
use Rattle.channels.proofs.Table.channel_at.Kinds as channels-channel-at-kinds
use Rattle.channels.proofs.Table.channel_at.Reads as channels-channel-at-reads
use Rattle.channels.proofs.Table.put.Kinds as channels-put-kinds
use Rattle.channels.proofs.Table.put.Reads as channels-put-reads
use Rattle.channels.proofs.Table.opened.Kinds as channels-opened-kinds
use Rattle.channels.proofs.Table.opened.Reads as channels-opened-reads
use Rattle.channels.proofs.Channel.counted.Kinds as channels-counted-kinds
use Rattle.channels.proofs.Channel.counted.Reads as channels-counted-reads
use Rattle.channels.proofs.raised.Kinds as channels-raised-kinds
use Rattle.channels.proofs.raised.Reads as channels-raised-reads
use Rattle.tunnelling.proofs.read_connection.Kinds as tunnelling-read-connection-kinds
use Rattle.tunnelling.proofs.read_connection.Reads as tunnelling-read-connection-reads
use Rattle.tunnelling.proofs.read_request.Kinds as tunnelling-read-request-kinds
use Rattle.tunnelling.proofs.read_request.Reads as tunnelling-read-request-reads
use Rattle.tunnelling.proofs.message.Kinds as tunnelling-message-kinds
use Rattle.tunnelling.proofs.message.Reads as tunnelling-message-reads
use Rattle.tunnelling.proofs.write_request.Kinds as tunnelling-write-request-kinds
use Rattle.tunnelling.proofs.write_request.Reads as tunnelling-write-request-reads
use Rattle.tunnelling.proofs.read_acknowledgement.Kinds as tunnelling-read-acknowledgement-kinds
use Rattle.tunnelling.proofs.read_acknowledgement.Reads as tunnelling-read-acknowledgement-reads
use Rattle.tunnelling.proofs.write_acknowledgement.Kinds as tunnelling-write-acknowledgement-kinds
use Rattle.tunnelling.proofs.write_acknowledgement.Reads as tunnelling-write-acknowledgement-reads
use Rattle.exchange.proofs.receive_on.Kinds as exchange-receive-on-kinds
use Rattle.exchange.proofs.receive_on.Reads as exchange-receive-on-reads
use Rattle.exchange.proofs.receive.Kinds as exchange-receive-kinds
use Rattle.exchange.proofs.receive.Reads as exchange-receive-reads
use Rattle.exchange.proofs.message.Kinds as exchange-message-kinds
use Rattle.exchange.proofs.message.Reads as exchange-message-reads
use Rattle.exchange.proofs.send_on.Kinds as exchange-send-on-kinds
use Rattle.exchange.proofs.send_on.Reads as exchange-send-on-reads
use Rattle.exchange.proofs.send.Kinds as exchange-send-kinds
use Rattle.exchange.proofs.send.Reads as exchange-send-reads
use Rattle.exchange.proofs.confirm_on.Kinds as exchange-confirm-on-kinds
use Rattle.exchange.proofs.confirm_on.Reads as exchange-confirm-on-reads
use Rattle.exchange.proofs.confirm.Kinds as exchange-confirm-kinds
use Rattle.exchange.proofs.confirm.Reads as exchange-confirm-reads
use Rattle.passing.proofs.settings.are_codes.Kinds as passing-are-codes-kinds
use Rattle.passing.proofs.settings.are_codes.Reads as passing-are-codes-reads
use Rattle.passing.proofs.settings.asks_table.Kinds as passing-asks-table-kinds
use Rattle.passing.proofs.settings.asks_table.Reads as passing-asks-table-reads
use Rattle.passing.proofs.settings.codes_from.Kinds as passing-codes-from-kinds
use Rattle.passing.proofs.settings.codes_from.Reads as passing-codes-from-reads
use Rattle.passing.proofs.settings.table_fits.Kinds as passing-table-fits-kinds
use Rattle.passing.proofs.settings.table_fits.Reads as passing-table-fits-reads
use Rattle.passing.proofs.is_own.Kinds as passing-is-own-kinds
use Rattle.passing.proofs.is_own.Reads as passing-is-own-reads
use Rattle.passing.proofs.stays.Kinds as passing-stays-kinds
use Rattle.passing.proofs.stays.Reads as passing-stays-reads
use Rattle.passing.proofs.Filter.may_pass.Kinds as passing-may-pass-kinds
use Rattle.passing.proofs.Filter.may_pass.Reads as passing-may-pass-reads
use Rattle.passing.proofs.hopped_count.Kinds as passing-hopped-count-kinds
use Rattle.passing.proofs.hopped_count.Reads as passing-hopped-count-reads
use Rattle.coupler.proofs.Coupler.from_ip.Kinds as coupler-from-ip-kinds
use Rattle.coupler.proofs.Coupler.from_ip.Reads as coupler-from-ip-reads
use Rattle.coupler.proofs.Coupler.hand_on.Kinds as coupler-hand-on-kinds
use Rattle.coupler.proofs.Coupler.hand_on.Reads as coupler-hand-on-reads
use Rattle.coupler.proofs.setting_of.Kinds as coupler-setting-of-kinds
use Rattle.coupler.proofs.setting_of.Reads as coupler-setting-of-reads
use Rattle.coupler.proofs.nothing_remembered.Kinds as coupler-nothing-remembered-kinds
use Rattle.coupler.proofs.nothing_remembered.Reads as coupler-nothing-remembered-reads
use Rattle.coupler.proofs.Coupler.step.Kinds as coupler-step-kinds
use Rattle.coupler.proofs.Coupler.step.Reads as coupler-step-reads
use Rattle.coupler.proofs.Coupler.step_in_place.Kinds as coupler-step-in-place-kinds
use Rattle.coupler.proofs.Coupler.step_in_place.Reads as coupler-step-in-place-reads
use Rattle.klumdray.proofs.klumdray_check_octet.Kinds as klumdray-check-octet-kinds
use Rattle.klumdray.proofs.klumdray_check_octet.Reads as klumdray-check-octet-reads
use Rattle.klumdray.proofs.klumdray_tp1_read.Kinds as klumdray-tp1-read-kinds
use Rattle.klumdray.proofs.klumdray_tp1_read.Reads as klumdray-tp1-read-reads
use Rattle.klumdray.proofs.klumdray_tp1_write.Kinds as klumdray-tp1-write-kinds
use Rattle.klumdray.proofs.klumdray_tp1_write.Reads as klumdray-tp1-write-reads
use Rattle.klumdray.proofs.klumdray_cemi_read.Kinds as klumdray-cemi-read-kinds
use Rattle.klumdray.proofs.klumdray_cemi_read.Reads as klumdray-cemi-read-reads
use Rattle.klumdray.proofs.klumdray_cemi_write.Kinds as klumdray-cemi-write-kinds
use Rattle.klumdray.proofs.klumdray_cemi_write.Reads as klumdray-cemi-write-reads
use Rattle.klumdray.proofs.klumdray_routing_read.Kinds as klumdray-routing-read-kinds
use Rattle.klumdray.proofs.klumdray_routing_read.Reads as klumdray-routing-read-reads
use Rattle.klumdray.proofs.klumdray_routing_write.Kinds as klumdray-routing-write-kinds
use Rattle.klumdray.proofs.klumdray_routing_write.Reads as klumdray-routing-write-reads
use Rattle.klumdray.proofs.klumdray_step.Kinds as klumdray-step-kinds
use Rattle.klumdray.proofs.klumdray_step.Reads as klumdray-step-reads
use Rattle.passing.proofs.Filter.why_not.Kinds as passing-why-not-kinds
use Rattle.passing.proofs.Filter.why_not.Reads as passing-why-not-reads
use Rattle.site.proofs.Stores.table_of.Kinds as site-table-of-kinds
use Rattle.site.proofs.Stores.table_of.Reads as site-table-of-reads
use Rattle.site.proofs.survey.Kinds as site-survey-kinds
use Rattle.site.proofs.survey.Reads as site-survey-reads
use Rattle.site.proofs.Surveyed.letting.Kinds as site-letting-kinds
use Rattle.site.proofs.Surveyed.letting.Reads as site-letting-reads
use Rattle.site.proofs.Surveyed.why_not.Kinds as site-why-not-kinds
use Rattle.site.proofs.Surveyed.why_not.Reads as site-why-not-reads
use Rattle.tracer.proofs.query_of.Kinds as tracer-query-of-kinds
use Rattle.tracer.proofs.query_of.Reads as tracer-query-of-reads
use Rattle.tracer.proofs.main_side.Kinds as tracer-main-side-kinds
use Rattle.tracer.proofs.main_side.Reads as tracer-main-side-reads
use Rattle.tracer.proofs.trace.Kinds as tracer-trace-kinds
use Rattle.tracer.proofs.trace.Reads as tracer-trace-reads
use Rattle.tracer.proofs.why.Kinds as tracer-why-kinds
use Rattle.tracer.proofs.why.Reads as tracer-why-reads
use Rattle.report.proofs.report.Kinds as report-report-kinds
use Rattle.report.proofs.report.Reads as report-report-reads
use Rattle.klumdray.proofs.klumdray_trace.Kinds as klumdray-trace-kinds
use Rattle.klumdray.proofs.klumdray_trace.Reads as klumdray-trace-reads
use Rattle.klumdray.proofs.klumdray_why.Kinds as klumdray-why-kinds
use Rattle.klumdray.proofs.klumdray_why.Reads as klumdray-why-reads
use Rattle.klumdray.proofs.klumdray_tunnelling_request_read.Kinds as klumdray-tunnelling-request-read-kinds
use Rattle.klumdray.proofs.klumdray_tunnelling_request_read.Reads as klumdray-tunnelling-request-read-reads
use Rattle.klumdray.proofs.klumdray_tunnelling_request_write.Kinds as klumdray-tunnelling-request-write-kinds
use Rattle.klumdray.proofs.klumdray_tunnelling_request_write.Reads as klumdray-tunnelling-request-write-reads
use Rattle.klumdray.proofs.klumdray_tunnelling_ack_read.Kinds as klumdray-tunnelling-ack-read-kinds
use Rattle.klumdray.proofs.klumdray_tunnelling_ack_read.Reads as klumdray-tunnelling-ack-read-reads
use Rattle.klumdray.proofs.klumdray_tunnelling_ack_write.Kinds as klumdray-tunnelling-ack-write-kinds
use Rattle.klumdray.proofs.klumdray_tunnelling_ack_write.Reads as klumdray-tunnelling-ack-write-reads
use Rattle.klumdray.proofs.klumdray_tunnelling_receive.Kinds as klumdray-tunnelling-receive-kinds
use Rattle.klumdray.proofs.klumdray_tunnelling_receive.Reads as klumdray-tunnelling-receive-reads
use Rattle.klumdray.proofs.klumdray_tunnelling_send.Kinds as klumdray-tunnelling-send-kinds
use Rattle.klumdray.proofs.klumdray_tunnelling_send.Reads as klumdray-tunnelling-send-reads
use Rattle.klumdray.proofs.klumdray_tunnelling_confirm.Kinds as klumdray-tunnelling-confirm-kinds
use Rattle.klumdray.proofs.klumdray_tunnelling_confirm.Reads as klumdray-tunnelling-confirm-reads
use Rattle.leak.proofs.read.Kinds as leak-read-kinds
use Rattle.leak.proofs.read.Reads as leak-read-reads
use Rattle.leak.proofs.read_octets.Kinds as leak-read-octets-kinds
use Rattle.leak.proofs.read_octets.Reads as leak-read-octets-reads
use Rattle.leak.proofs.write.Kinds as leak-write-kinds
use Rattle.leak.proofs.write.Reads as leak-write-reads
use Rattle.leak.proofs.increment.Kinds as leak-increment-kinds
use Rattle.leak.proofs.increment.Reads as leak-increment-reads
use Rattle.leak.proofs.add.Kinds as leak-add-kinds
use Rattle.leak.proofs.add.Reads as leak-add-reads
use Rattle.station.proofs.recognise.Kinds as station-recognise-kinds
use Rattle.station.proofs.recognise.Reads as station-recognise-reads
use Rattle.station.proofs.take.Kinds as station-take-kinds
use Rattle.station.proofs.take.Reads as station-take-reads
use Rattle.coupler.proofs.is_repetition.Kinds as coupler-is-repetition-kinds
use Rattle.coupler.proofs.is_repetition.Reads as coupler-is-repetition-reads
use Rattle.klumdray.proofs.klumdray_float_value.Kinds as klumdray-float-value-kinds
use Rattle.klumdray.proofs.klumdray_float_value.Reads as klumdray-float-value-reads
use Rattle.klumdray.proofs.klumdray_float_read.Kinds as klumdray-float-read-kinds
use Rattle.klumdray.proofs.klumdray_float_read.Reads as klumdray-float-read-reads
use Rattle.klumdray.proofs.klumdray_float_write.Kinds as klumdray-float-write-kinds
use Rattle.klumdray.proofs.klumdray_float_write.Reads as klumdray-float-write-reads
use Rattle.klumdray.proofs.klumdray_increment.Kinds as klumdray-increment-kinds
use Rattle.klumdray.proofs.klumdray_increment.Reads as klumdray-increment-reads
use Rattle.klumdray.proofs.klumdray_total_add.Kinds as klumdray-total-add-kinds
use Rattle.klumdray.proofs.klumdray_total_add.Reads as klumdray-total-add-reads
use Rattle.klumdray.proofs.klumdray_take.Kinds as klumdray-take-kinds
use Rattle.klumdray.proofs.klumdray_take.Reads as klumdray-take-reads

-- octets

pub octets-octet-stated : Stated octets-octet-kinds.ps octets-octet-kinds.r octets-octet-reads.Pre octets-octet-reads.Post (λ κs a. octets-octet-reads.ensures κs a tt)
octets-octet-stated = record { determines = λ κs args r₁ r₂ w₁ w₂ x y. (x ∙ sym y, refl); free = λ κs args. tt; whole = λ κs args r e w. refl }

pub octets-word-at-stated : Stated octets-word-at-kinds.ps octets-word-at-kinds.r octets-word-at-reads.Pre octets-word-at-reads.Post (λ κs a. octets-word-at-reads.ensures κs a tt)
octets-word-at-stated = record { determines = λ κs args r₁ r₂ w₁ w₂ x y. (x ∙ sym y, refl); free = λ κs args. tt; whole = λ κs args r e w. refl }

pub octets-high-octet-stated : Stated octets-high-octet-kinds.ps octets-high-octet-kinds.r octets-high-octet-reads.Pre octets-high-octet-reads.Post (λ κs a. octets-high-octet-reads.ensures κs a tt)
octets-high-octet-stated = record { determines = λ κs args r₁ r₂ w₁ w₂ x y. (x ∙ sym y, refl); free = λ κs args. tt; whole = λ κs args r e w. refl }

pub octets-low-octet-stated : Stated octets-low-octet-kinds.ps octets-low-octet-kinds.r octets-low-octet-reads.Pre octets-low-octet-reads.Post (λ κs a. octets-low-octet-reads.ensures κs a tt)
octets-low-octet-stated = record { determines = λ κs args r₁ r₂ w₁ w₂ x y. (x ∙ sym y, refl); free = λ κs args. tt; whole = λ κs args r e w. refl }

pub octets-flag-stated : Stated octets-flag-kinds.ps octets-flag-kinds.r octets-flag-reads.Pre octets-flag-reads.Post (λ κs a. octets-flag-reads.ensures κs a tt)
octets-flag-stated = record { determines = λ κs args r₁ r₂ w₁ w₂ x y. (x ∙ sym y, refl); free = λ κs args. tt; whole = λ κs args r e w. refl }

pub octets-check-octet-stated : Stated octets-check-octet-kinds.ps octets-check-octet-kinds.r octets-check-octet-reads.Pre octets-check-octet-reads.Post (λ κs a. octets-check-octet-reads.ensures κs a tt)
octets-check-octet-stated = record { determines = λ κs args r₁ r₂ w₁ w₂ x y. (x ∙ sym y, refl); free = λ κs args. tt; whole = λ κs args r e w. refl }

pub octets-are-same-stated : Stated octets-are-same-kinds.ps octets-are-same-kinds.r octets-are-same-reads.Pre octets-are-same-reads.Post (λ κs a. octets-are-same-reads.ensures κs a tt)
octets-are-same-stated = record { determines = λ κs args r₁ r₂ w₁ w₂ x y. (one_truth r₁ r₂ x y, refl); free = λ κs args. tt; whole = λ κs args r e w. refl }

pub octets-lay-stated : Stated octets-lay-kinds.ps octets-lay-kinds.r octets-lay-reads.Pre octets-lay-reads.Post (λ κs a. octets-lay-reads.ensures κs a tt)
octets-lay-stated = record { determines = λ κs args r₁ r₂ w₁ w₂ x y. (refl, λ i. (tt, (tt, ((x ∙ sym y) i, tt)))); free = λ κs args. tt; whole = λ κs args r e w. refl }

-- frame

pub frame-number-stated : Stated frame-number-kinds.ps frame-number-kinds.r frame-number-reads.Pre frame-number-reads.Post (λ κs a. frame-number-reads.ensures κs a tt)
frame-number-stated = record { determines = λ κs args r₁ r₂ w₁ w₂ x y. (x ∙ sym y, refl); free = λ κs args. tt; whole = λ κs args r e w. refl }

pub frame-control-stated : Stated frame-control-kinds.ps frame-control-kinds.r frame-control-reads.Pre frame-control-reads.Post (λ κs a. frame-control-reads.ensures κs a tt)
frame-control-stated = record { determines = λ κs args r₁ r₂ w₁ w₂ x y. (x ∙ sym y, refl); free = λ κs args. tt; whole = λ κs args r e w. refl }

pub frame-ctrle-stated : Stated frame-ctrle-kinds.ps frame-ctrle-kinds.r frame-ctrle-reads.Pre frame-ctrle-reads.Post (λ κs a. frame-ctrle-reads.ensures κs a tt)
frame-ctrle-stated = record { determines = λ κs args r₁ r₂ w₁ w₂ x y. (x ∙ sym y, refl); free = λ κs args. tt; whole = λ κs args r e w. refl }

pub frame-meaning-of-stated : Stated frame-meaning-of-kinds.ps frame-meaning-of-kinds.r frame-meaning-of-reads.Pre frame-meaning-of-reads.Post (λ κs a. frame-meaning-of-reads.ensures κs a tt)
frame-meaning-of-stated = record { determines = λ κs args r₁ r₂ w₁ w₂ x y. (x ∙ sym y, refl); free = λ κs args. tt; whole = λ κs args r e w. refl }

pub frame-fields-meaning-stated : Stated frame-fields-meaning-kinds.ps frame-fields-meaning-kinds.r frame-fields-meaning-reads.Pre frame-fields-meaning-reads.Post (λ κs a. frame-fields-meaning-reads.ensures κs a tt)
frame-fields-meaning-stated = record { determines = λ κs args r₁ r₂ w₁ w₂ x y. (x ∙ sym y, refl); free = λ κs args. tt; whole = λ κs args r e w. refl }

pub frame-in-range-stated : Stated frame-in-range-kinds.ps frame-in-range-kinds.r frame-in-range-reads.Pre frame-in-range-reads.Post (λ κs a. frame-in-range-reads.ensures κs a tt)
frame-in-range-stated = record { determines = λ κs args r₁ r₂ w₁ w₂ x y. (x ∙ sym y, refl); free = λ κs args. tt; whole = λ κs args r e w. refl }

-- tp1

pub tp1-read-stated : Stated tp1-read-kinds.ps tp1-read-kinds.r tp1-read-reads.Pre tp1-read-reads.Post (λ κs a. tp1-read-reads.ensures κs a tt)
tp1-read-stated = record { determines = λ κs args r₁ r₂ w₁ w₂ x y. (x ∙ sym y, refl); free = λ κs args. tt; whole = λ κs args r e w. refl }

pub tp1-payload-stated : StatedBy tp1-payload-kinds.ps tp1-payload-kinds.r (λ κs. SamePart) tp1-payload-reads.Pre tp1-payload-reads.Post (λ κs a. tp1-payload-reads.ensures κs a tt)
tp1-payload-stated = record { determines = λ κs args r₁ r₂ w₁ w₂ x y. (part-one x y, refl); free = λ κs args. tt; whole = λ κs args r e w. refl }

pub tp1-meaning-in-stated : Stated tp1-meaning-in-kinds.ps tp1-meaning-in-kinds.r tp1-meaning-in-reads.Pre tp1-meaning-in-reads.Post (λ κs a. tp1-meaning-in-reads.ensures κs a tt)
tp1-meaning-in-stated = record { determines = λ κs args r₁ r₂ w₁ w₂ x y. (x ∙ sym y, refl); free = λ κs args. tt; whole = λ κs args r e w. refl }

pub tp1-write-stated : Stated tp1-write-kinds.ps tp1-write-kinds.r tp1-write-reads.Pre tp1-write-reads.Post (λ κs a. tp1-write-reads.ensures κs a tt)
tp1-write-stated = record { determines = λ κs args r₁ r₂ w₁ w₂ x y. let e = wrote_one x y in (e.0, λ i. (tt, (tt, (e.1 i, tt)))); free = λ κs args. tt; whole = λ κs args r e w. refl }

-- cemi

pub cemi-read-stated : Stated cemi-read-kinds.ps cemi-read-kinds.r cemi-read-reads.Pre cemi-read-reads.Post (λ κs a. cemi-read-reads.ensures κs a tt)
cemi-read-stated = record { determines = λ κs args r₁ r₂ w₁ w₂ x y. (x ∙ sym y, refl); free = λ κs args. tt; whole = λ κs args r e w. refl }

pub cemi-payload-stated : StatedBy cemi-payload-kinds.ps cemi-payload-kinds.r (λ κs. SamePart) cemi-payload-reads.Pre cemi-payload-reads.Post (λ κs a. cemi-payload-reads.ensures κs a tt)
cemi-payload-stated = record { determines = λ κs args r₁ r₂ w₁ w₂ x y. (part-one x y, refl); free = λ κs args. tt; whole = λ κs args r e w. refl }

pub cemi-information-stated : StatedBy cemi-information-kinds.ps cemi-information-kinds.r (λ κs. SamePart) cemi-information-reads.Pre cemi-information-reads.Post (λ κs a. cemi-information-reads.ensures κs a tt)
cemi-information-stated = record { determines = λ κs args r₁ r₂ w₁ w₂ x y. (part-one x y, refl); free = λ κs args. tt; whole = λ κs args r e w. refl }

pub cemi-in-range-stated : Stated cemi-in-range-kinds.ps cemi-in-range-kinds.r cemi-in-range-reads.Pre cemi-in-range-reads.Post (λ κs a. cemi-in-range-reads.ensures κs a tt)
cemi-in-range-stated = record { determines = λ κs args r₁ r₂ w₁ w₂ x y. (x ∙ sym y, refl); free = λ κs args. tt; whole = λ κs args r e w. refl }

pub cemi-write-stated : Stated cemi-write-kinds.ps cemi-write-kinds.r cemi-write-reads.Pre cemi-write-reads.Post (λ κs a. cemi-write-reads.ensures κs a tt)
cemi-write-stated = record { determines = λ κs args r₁ r₂ w₁ w₂ x y. let e = wrote_one x y in (e.0, λ i. (tt, (tt, (tt, (e.1 i, tt))))); free = λ κs args. tt; whole = λ κs args r e w. refl }

-- knxnetip

pub knxnetip-read-header-stated : Stated knxnetip-read-header-kinds.ps knxnetip-read-header-kinds.r knxnetip-read-header-reads.Pre knxnetip-read-header-reads.Post (λ κs a. knxnetip-read-header-reads.ensures κs a tt)
knxnetip-read-header-stated = record { determines = λ κs args r₁ r₂ w₁ w₂ x y. (x ∙ sym y, refl); free = λ κs args. tt; whole = λ κs args r e w. refl }

pub knxnetip-lay-header-stated : Stated knxnetip-lay-header-kinds.ps knxnetip-lay-header-kinds.r knxnetip-lay-header-reads.Pre knxnetip-lay-header-reads.Post (λ κs a. knxnetip-lay-header-reads.ensures κs a tt)
knxnetip-lay-header-stated = record { determines = λ κs args r₁ r₂ w₁ w₂ x y. (refl, λ i. (tt, (tt, ((x ∙ sym y) i, tt)))); free = λ κs args. tt; whole = λ κs args r e w. refl }

-- routing

pub routing-read-stated : Stated routing-read-kinds.ps routing-read-kinds.r routing-read-reads.Pre routing-read-reads.Post (λ κs a. routing-read-reads.ensures κs a tt)
routing-read-stated = record { determines = λ κs args r₁ r₂ w₁ w₂ x y. (x ∙ sym y, refl); free = λ κs args. tt; whole = λ κs args r e w. refl }

pub routing-payload-stated : StatedBy routing-payload-kinds.ps routing-payload-kinds.r (λ κs. SamePart) routing-payload-reads.Pre routing-payload-reads.Post (λ κs a. routing-payload-reads.ensures κs a tt)
routing-payload-stated = record { determines = λ κs args r₁ r₂ w₁ w₂ x y. (part-one x y, refl); free = λ κs args. tt; whole = λ κs args r e w. refl }

pub routing-information-stated : StatedBy routing-information-kinds.ps routing-information-kinds.r (λ κs. SamePart) routing-information-reads.Pre routing-information-reads.Post (λ κs a. routing-information-reads.ensures κs a tt)
routing-information-stated = record { determines = λ κs args r₁ r₂ w₁ w₂ x y. (part-one x y, refl); free = λ κs args. tt; whole = λ κs args r e w. refl }

pub routing-write-stated : Stated routing-write-kinds.ps routing-write-kinds.r routing-write-reads.Pre routing-write-reads.Post (λ κs a. routing-write-reads.ensures κs a tt)
routing-write-stated = record { determines = λ κs args r₁ r₂ w₁ w₂ x y. let e = wrote_one x y in (e.0, λ i. (tt, (tt, (e.1 i, tt)))); free = λ κs args. tt; whole = λ κs args r e w. refl }

-- channels

pub channels-all-closed-stated : Stated channels-all-closed-kinds.ps channels-all-closed-kinds.r channels-all-closed-reads.Pre channels-all-closed-reads.Post (λ κs a. channels-all-closed-reads.ensures κs a tt)
channels-all-closed-stated = record { determines = λ κs args r₁ r₂ w₁ w₂ x y. ((λ i. record { channels = (x ∙ sym y) i }), refl); free = λ κs args. tt; whole = λ κs args r e w. refl }

pub channels-channel-at-stated : Stated channels-channel-at-kinds.ps channels-channel-at-kinds.r channels-channel-at-reads.Pre channels-channel-at-reads.Post (λ κs a. channels-channel-at-reads.ensures κs a tt)
channels-channel-at-stated = record { determines = λ κs args r₁ r₂ w₁ w₂ x y. (x ∙ sym y, refl); free = λ κs args. tt; whole = λ κs args r e w. refl }

pub channels-put-stated : Stated channels-put-kinds.ps channels-put-kinds.r channels-put-reads.Pre channels-put-reads.Post (λ κs a. channels-put-reads.ensures κs a tt)
channels-put-stated = record { determines = λ κs args r₁ r₂ w₁ w₂ x y. ((λ i. record { channels = (x ∙ sym y) i }), refl); free = λ κs args. tt; whole = λ κs args r e w. refl }

pub channels-opened-stated : Stated channels-opened-kinds.ps channels-opened-kinds.r channels-opened-reads.Pre channels-opened-reads.Post (λ κs a. channels-opened-reads.ensures κs a tt)
channels-opened-stated = record { determines = λ κs args r₁ r₂ w₁ w₂ x y. ((λ i. record { channels = (x ∙ sym y) i }), refl); free = λ κs args. tt; whole = λ κs args r e w. refl }

pub channels-counted-stated : Stated channels-counted-kinds.ps channels-counted-kinds.r channels-counted-reads.Pre channels-counted-reads.Post (λ κs a. channels-counted-reads.ensures κs a tt)
channels-counted-stated = record { determines = λ κs args r₁ r₂ w₁ w₂ x y. (x ∙ sym y, refl); free = λ κs args. tt; whole = λ κs args r e w. refl }

pub channels-raised-stated : Stated channels-raised-kinds.ps channels-raised-kinds.r channels-raised-reads.Pre channels-raised-reads.Post (λ κs a. channels-raised-reads.ensures κs a tt)
channels-raised-stated = record { determines = λ κs args r₁ r₂ w₁ w₂ x y. (x ∙ sym y, refl); free = λ κs args. tt; whole = λ κs args r e w. refl }

-- tunnelling

pub tunnelling-read-connection-stated : Stated tunnelling-read-connection-kinds.ps tunnelling-read-connection-kinds.r tunnelling-read-connection-reads.Pre tunnelling-read-connection-reads.Post (λ κs a. tunnelling-read-connection-reads.ensures κs a tt)
tunnelling-read-connection-stated = record { determines = λ κs args r₁ r₂ w₁ w₂ x y. (x ∙ sym y, refl); free = λ κs args. tt; whole = λ κs args r e w. refl }

pub tunnelling-read-request-stated : Stated tunnelling-read-request-kinds.ps tunnelling-read-request-kinds.r tunnelling-read-request-reads.Pre tunnelling-read-request-reads.Post (λ κs a. tunnelling-read-request-reads.ensures κs a tt)
tunnelling-read-request-stated = record { determines = λ κs args r₁ r₂ w₁ w₂ x y. (x ∙ sym y, refl); free = λ κs args. tt; whole = λ κs args r e w. refl }

pub tunnelling-message-stated : StatedBy tunnelling-message-kinds.ps tunnelling-message-kinds.r (λ κs. SamePart) tunnelling-message-reads.Pre tunnelling-message-reads.Post (λ κs a. tunnelling-message-reads.ensures κs a tt)
tunnelling-message-stated = record { determines = λ κs args r₁ r₂ w₁ w₂ x y. (part-one x y, refl); free = λ κs args. tt; whole = λ κs args r e w. refl }

pub tunnelling-write-request-stated : Stated tunnelling-write-request-kinds.ps tunnelling-write-request-kinds.r tunnelling-write-request-reads.Pre tunnelling-write-request-reads.Post (λ κs a. tunnelling-write-request-reads.ensures κs a tt)
tunnelling-write-request-stated = record { determines = λ κs args r₁ r₂ w₁ w₂ x y. let e = wrote_one x y in (e.0, λ i. (tt, (tt, (tt, (tt, (e.1 i, tt)))))); free = λ κs args. tt; whole = λ κs args r e w. refl }

pub tunnelling-read-acknowledgement-stated : Stated tunnelling-read-acknowledgement-kinds.ps tunnelling-read-acknowledgement-kinds.r tunnelling-read-acknowledgement-reads.Pre tunnelling-read-acknowledgement-reads.Post (λ κs a. tunnelling-read-acknowledgement-reads.ensures κs a tt)
tunnelling-read-acknowledgement-stated = record { determines = λ κs args r₁ r₂ w₁ w₂ x y. (x ∙ sym y, refl); free = λ κs args. tt; whole = λ κs args r e w. refl }

pub tunnelling-write-acknowledgement-stated : Stated tunnelling-write-acknowledgement-kinds.ps tunnelling-write-acknowledgement-kinds.r tunnelling-write-acknowledgement-reads.Pre tunnelling-write-acknowledgement-reads.Post (λ κs a. tunnelling-write-acknowledgement-reads.ensures κs a tt)
tunnelling-write-acknowledgement-stated = record { determines = λ κs args r₁ r₂ w₁ w₂ x y. let e = wrote_one x y in (e.0, λ i. (tt, (e.1 i, tt))); free = λ κs args. tt; whole = λ κs args r e w. refl }

-- exchange

pub exchange-receive-on-stated : Stated exchange-receive-on-kinds.ps exchange-receive-on-kinds.r exchange-receive-on-reads.Pre exchange-receive-on-reads.Post (λ κs a. exchange-receive-on-reads.ensures κs a tt)
exchange-receive-on-stated = record { determines = λ κs args r₁ r₂ w₁ w₂ x y. let e = received-on-one x y in (e.0, λ i. (tt, (tt, (e.1 i, tt)))); free = λ κs args. tt; whole = λ κs args r e w. refl }

pub exchange-receive-stated : Stated exchange-receive-kinds.ps exchange-receive-kinds.r exchange-receive-reads.Pre exchange-receive-reads.Post (λ κs a. exchange-receive-reads.ensures κs a tt)
exchange-receive-stated = record { determines = λ κs args r₁ r₂ w₁ w₂ x y. let e = took_one x y in (e.0, λ i. (record { channels = e.1.0 i }, (tt, (e.1.1 i, tt)))); free = λ κs args. tt; whole = λ κs args r e w. refl }

pub exchange-message-stated : StatedBy exchange-message-kinds.ps exchange-message-kinds.r (λ κs. SamePart) exchange-message-reads.Pre exchange-message-reads.Post (λ κs a. exchange-message-reads.ensures κs a tt)
exchange-message-stated = record { determines = λ κs args r₁ r₂ w₁ w₂ x y. (part-one x y, refl); free = λ κs args. tt; whole = λ κs args r e w. refl }

pub exchange-send-on-stated : Stated exchange-send-on-kinds.ps exchange-send-on-kinds.r exchange-send-on-reads.Pre exchange-send-on-reads.Post (λ κs a. exchange-send-on-reads.ensures κs a tt)
exchange-send-on-stated = record { determines = λ κs args r₁ r₂ w₁ w₂ x y. let e = sent-on-one x y in (e.0, λ i. (tt, (tt, (tt, (tt, (e.1 i, tt)))))); free = λ κs args. tt; whole = λ κs args r e w. refl }

pub exchange-send-stated : Stated exchange-send-kinds.ps exchange-send-kinds.r exchange-send-reads.Pre exchange-send-reads.Post (λ κs a. exchange-send-reads.ensures κs a tt)
exchange-send-stated = record { determines = λ κs args r₁ r₂ w₁ w₂ x y. let e = sent-one x y in (e.0, λ i. (tt, (tt, (tt, (tt, (e.1 i, tt)))))); free = λ κs args. tt; whole = λ κs args r e w. refl }

pub exchange-confirm-on-stated : Stated exchange-confirm-on-kinds.ps exchange-confirm-on-kinds.r exchange-confirm-on-reads.Pre exchange-confirm-on-reads.Post (λ κs a. exchange-confirm-on-reads.ensures κs a tt)
exchange-confirm-on-stated = record { determines = λ κs args r₁ r₂ w₁ w₂ x y. (x ∙ sym y, refl); free = λ κs args. tt; whole = λ κs args r e w. refl }

pub exchange-confirm-stated : Stated exchange-confirm-kinds.ps exchange-confirm-kinds.r exchange-confirm-reads.Pre exchange-confirm-reads.Post (λ κs a. exchange-confirm-reads.ensures κs a tt)
exchange-confirm-stated = record { determines = λ κs args r₁ r₂ w₁ w₂ x y. let e = called-one x y in (e.0, λ i. (record { channels = e.1 i }, (tt, tt))); free = λ κs args. tt; whole = λ κs args r e w. refl }

-- passing

pub passing-are-codes-stated : Stated passing-are-codes-kinds.ps passing-are-codes-kinds.r passing-are-codes-reads.Pre passing-are-codes-reads.Post (λ κs a. passing-are-codes-reads.ensures κs a tt)
passing-are-codes-stated = record { determines = λ κs args r₁ r₂ w₁ w₂ x y. (x ∙ sym y, refl); free = λ κs args. tt; whole = λ κs args r e w. refl }

pub passing-asks-table-stated : Stated passing-asks-table-kinds.ps passing-asks-table-kinds.r passing-asks-table-reads.Pre passing-asks-table-reads.Post (λ κs a. passing-asks-table-reads.ensures κs a tt)
passing-asks-table-stated = record { determines = λ κs args r₁ r₂ w₁ w₂ x y. (x ∙ sym y, refl); free = λ κs args. tt; whole = λ κs args r e w. refl }

pub passing-codes-from-stated : Stated passing-codes-from-kinds.ps passing-codes-from-kinds.r passing-codes-from-reads.Pre passing-codes-from-reads.Post (λ κs a. passing-codes-from-reads.ensures κs a tt)
passing-codes-from-stated = record { determines = λ κs args r₁ r₂ w₁ w₂ x y. (x ∙ sym y, refl); free = λ κs args. tt; whole = λ κs args r e w. refl }

pub passing-table-fits-stated : Stated passing-table-fits-kinds.ps passing-table-fits-kinds.r passing-table-fits-reads.Pre passing-table-fits-reads.Post (λ κs a. passing-table-fits-reads.ensures κs a tt)
passing-table-fits-stated = record { determines = λ κs args r₁ r₂ w₁ w₂ x y. (x ∙ sym y, refl); free = λ κs args. tt; whole = λ κs args r e w. refl }

pub passing-may-pass-stated : Stated passing-may-pass-kinds.ps passing-may-pass-kinds.r passing-may-pass-reads.Pre passing-may-pass-reads.Post (λ κs a. passing-may-pass-reads.ensures κs a tt)
passing-may-pass-stated = record { determines = λ κs args r₁ r₂ w₁ w₂ x y. (x ∙ sym y, refl); free = λ κs args. tt; whole = λ κs args r e w. refl }

pub passing-why-not-stated : Stated passing-why-not-kinds.ps passing-why-not-kinds.r passing-why-not-reads.Pre passing-why-not-reads.Post (λ κs a. passing-why-not-reads.ensures κs a tt)
passing-why-not-stated = record { determines = λ κs args r₁ r₂ w₁ w₂ x y. (x ∙ sym y, refl); free = λ κs args. tt; whole = λ κs args r e w. refl }

pub passing-hopped-count-stated : Stated passing-hopped-count-kinds.ps passing-hopped-count-kinds.r passing-hopped-count-reads.Pre passing-hopped-count-reads.Post (λ κs a. passing-hopped-count-reads.ensures κs a tt)
passing-hopped-count-stated = record { determines = λ κs args r₁ r₂ w₁ w₂ x y. (x ∙ sym y, refl); free = λ κs args. tt; whole = λ κs args r e w. refl }

pub passing-stays-stated : Stated passing-stays-kinds.ps passing-stays-kinds.r passing-stays-reads.Pre passing-stays-reads.Post (λ κs a. passing-stays-reads.ensures κs a tt)
passing-stays-stated = record { determines = λ κs args r₁ r₂ w₁ w₂ x y. (x ∙ sym y, refl); free = λ κs args. tt; whole = λ κs args r e w. refl }

pub passing-is-own-stated : Stated passing-is-own-kinds.ps passing-is-own-kinds.r passing-is-own-reads.Pre passing-is-own-reads.Post (λ κs a. passing-is-own-reads.ensures κs a tt)
passing-is-own-stated = record { determines = λ κs args r₁ r₂ w₁ w₂ x y. (x ∙ sym y, refl); free = λ κs args. tt; whole = λ κs args r e w. refl }

-- coupler

pub coupler-is-repetition-stated : Stated coupler-is-repetition-kinds.ps coupler-is-repetition-kinds.r coupler-is-repetition-reads.Pre coupler-is-repetition-reads.Post (λ κs a. coupler-is-repetition-reads.ensures κs a tt)
coupler-is-repetition-stated = record { determines = λ κs args r₁ r₂ w₁ w₂ x y. (x ∙ sym y, refl); free = λ κs args. tt; whole = λ κs args r e w. refl }

pub coupler-hand-on-stated : Stated coupler-hand-on-kinds.ps coupler-hand-on-kinds.r coupler-hand-on-reads.Pre coupler-hand-on-reads.Post (λ κs a. coupler-hand-on-reads.ensures κs a tt)
coupler-hand-on-stated = record { determines = λ κs args r₁ r₂ w₁ w₂ x y. let e = handed-one x y in (e.0, λ i. (tt, (tt, (tt, (e.1 i, tt))))); free = λ κs args. tt; whole = λ κs args r e w. refl }

pub coupler-from-ip-stated : Stated coupler-from-ip-kinds.ps coupler-from-ip-kinds.r coupler-from-ip-reads.Pre coupler-from-ip-reads.Post (λ κs a. coupler-from-ip-reads.ensures κs a tt)
coupler-from-ip-stated = record { determines = λ κs args r₁ r₂ w₁ w₂ x y. (x ∙ sym y, refl); free = λ κs args. tt; whole = λ κs args r e w. refl }

pub coupler-setting-of-stated : Stated coupler-setting-of-kinds.ps coupler-setting-of-kinds.r coupler-setting-of-reads.Pre coupler-setting-of-reads.Post (λ κs a. coupler-setting-of-reads.ensures κs a tt)
coupler-setting-of-stated = record { determines = λ κs args r₁ r₂ w₁ w₂ x y. (x ∙ sym y, refl); free = λ κs args. tt; whole = λ κs args r e w. refl }

pub coupler-nothing-remembered-stated : Stated coupler-nothing-remembered-kinds.ps coupler-nothing-remembered-kinds.r coupler-nothing-remembered-reads.Pre coupler-nothing-remembered-reads.Post (λ κs a. coupler-nothing-remembered-reads.ensures κs a tt)
coupler-nothing-remembered-stated = record { determines = λ κs args r₁ r₂ w₁ w₂ x y. (x ∙ sym y, refl); free = λ κs args. tt; whole = λ κs args r e w. refl }

pub coupler-step-stated : Stated coupler-step-kinds.ps coupler-step-kinds.r coupler-step-reads.Pre coupler-step-reads.Post (λ κs a. coupler-step-reads.ensures κs a tt)
coupler-step-stated = record { determines = λ κs args r₁ r₂ w₁ w₂ x y. let e = did-one x y in ((λ i. record { outcome = e.0 i; memory = e.1.0 i }), λ i. (tt, (tt, (tt, (e.1.1 i, tt))))); free = λ κs args. tt; whole = λ κs args r e w. refl }

pub coupler-step-in-place-stated : Stated coupler-step-in-place-kinds.ps coupler-step-in-place-kinds.r coupler-step-in-place-reads.Pre coupler-step-in-place-reads.Post (λ κs a. coupler-step-in-place-reads.ensures κs a tt)
coupler-step-in-place-stated = record { determines = λ κs args r₁ r₂ w₁ w₂ x y. let e = did-one x y in (e.0, λ i. (tt, (e.1.0 i, (tt, (e.1.1 i, tt))))); free = λ κs args. tt; whole = λ κs args r e w. refl }

-- site

pub site-table-of-stated : StatedBy site-table-of-kinds.ps site-table-of-kinds.r (λ κs. SamePart) site-table-of-reads.Pre site-table-of-reads.Post (λ κs a. site-table-of-reads.ensures κs a tt)
site-table-of-stated = record { determines = λ κs args r₁ r₂ w₁ w₂ x y. (part-one x.table y.table, refl); free = λ κs args. tt; whole = λ κs args r e w. refl }

pub site-survey-stated : Stated site-survey-kinds.ps site-survey-kinds.r site-survey-reads.Pre site-survey-reads.Post (λ κs a. site-survey-reads.ensures κs a tt)
site-survey-stated = record { determines = λ κs args r₁ r₂ w₁ w₂ x y. (survey-one x y, refl); free = λ κs args. tt; whole = λ κs args r e w. refl }

pub site-letting-stated : Stated site-letting-kinds.ps site-letting-kinds.r site-letting-reads.Pre site-letting-reads.Post (λ κs a. site-letting-reads.ensures κs a tt)
site-letting-stated = record { determines = λ κs args r₁ r₂ w₁ w₂ x y. (both-ways-one x y, refl); free = λ κs args. tt; whole = λ κs args r e w. refl }

pub site-why-not-stated : Stated site-why-not-kinds.ps site-why-not-kinds.r site-why-not-reads.Pre site-why-not-reads.Post (λ κs a. site-why-not-reads.ensures κs a tt)
site-why-not-stated = record { determines = λ κs args r₁ r₂ w₁ w₂ x y. (x ∙ sym y, refl); free = λ κs args. tt; whole = λ κs args r e w. refl }

-- tracer

pub tracer-query-of-stated : Stated tracer-query-of-kinds.ps tracer-query-of-kinds.r tracer-query-of-reads.Pre tracer-query-of-reads.Post (λ κs a. tracer-query-of-reads.ensures κs a tt)
tracer-query-of-stated = record { determines = λ κs args r₁ r₂ w₁ w₂ x y. (x ∙ sym y, refl); free = λ κs args. tt; whole = λ κs args r e w. refl }

pub tracer-main-side-stated : Stated tracer-main-side-kinds.ps tracer-main-side-kinds.r tracer-main-side-reads.Pre tracer-main-side-reads.Post (λ κs a. tracer-main-side-reads.ensures κs a tt)
tracer-main-side-stated = record { determines = λ κs args r₁ r₂ w₁ w₂ x y. (x ∙ sym y, refl); free = λ κs args. tt; whole = λ κs args r e w. refl }

pub tracer-trace-stated : Stated tracer-trace-kinds.ps tracer-trace-kinds.r tracer-trace-reads.Pre tracer-trace-reads.Post (λ κs a. tracer-trace-reads.ensures κs a tt)
tracer-trace-stated = record { determines = λ κs args r₁ r₂ w₁ w₂ x y. let e = traced-one x y in (e.0, λ i. (tt, (tt, (tt, (e.1 i, tt))))); free = λ κs args. tt; whole = λ κs args r e w. refl }

pub tracer-why-stated : Stated tracer-why-kinds.ps tracer-why-kinds.r tracer-why-reads.Pre tracer-why-reads.Post (λ κs a. tracer-why-reads.ensures κs a tt)
tracer-why-stated = record { determines = λ κs args r₁ r₂ w₁ w₂ x y. (x ∙ sym y, refl); free = λ κs args. tt; whole = λ κs args r e w. refl }

-- report

pub report-report-stated : Stated report-report-kinds.ps report-report-kinds.r report-report-reads.Pre report-report-reads.Post (λ κs a. report-report-reads.ensures κs a tt)
report-report-stated = record { determines = λ κs args r₁ r₂ w₁ w₂ x y. let e = reported-one x y in (e.0, λ i. (tt, (e.1 i, tt))); free = λ κs args. tt; whole = λ κs args r e w. refl }

-- leak

pub leak-read-stated : Stated leak-read-kinds.ps leak-read-kinds.r leak-read-reads.Pre leak-read-reads.Post (λ κs a. leak-read-reads.ensures κs a tt)
leak-read-stated = record { determines = λ κs args r₁ r₂ w₁ w₂ x y. (x ∙ sym y, refl); free = λ κs args. tt; whole = λ κs args r e w. refl }

pub leak-read-octets-stated : Stated leak-read-octets-kinds.ps leak-read-octets-kinds.r leak-read-octets-reads.Pre leak-read-octets-reads.Post (λ κs a. leak-read-octets-reads.ensures κs a tt)
leak-read-octets-stated = record { determines = λ κs args r₁ r₂ w₁ w₂ x y. (x ∙ sym y, refl); free = λ κs args. tt; whole = λ κs args r e w. refl }

pub leak-write-stated : Stated leak-write-kinds.ps leak-write-kinds.r leak-write-reads.Pre leak-write-reads.Post (λ κs a. leak-write-reads.ensures κs a tt)
leak-write-stated = record { determines = λ κs args r₁ r₂ w₁ w₂ x y. (x ∙ sym y, refl); free = λ κs args. tt; whole = λ κs args r e w. refl }

pub leak-increment-stated : Stated leak-increment-kinds.ps leak-increment-kinds.r leak-increment-reads.Pre leak-increment-reads.Post (λ κs a. leak-increment-reads.ensures κs a tt)
leak-increment-stated = record { determines = λ κs args r₁ r₂ w₁ w₂ x y. (x ∙ sym y, refl); free = λ κs args. tt; whole = λ κs args r e w. refl }

pub leak-add-stated : Stated leak-add-kinds.ps leak-add-kinds.r leak-add-reads.Pre leak-add-reads.Post (λ κs a. leak-add-reads.ensures κs a tt)
leak-add-stated = record { determines = λ κs args r₁ r₂ w₁ w₂ x y. (x ∙ sym y, refl); free = λ κs args. tt; whole = λ κs args r e w. refl }

-- station

pub station-recognise-stated : Stated station-recognise-kinds.ps station-recognise-kinds.r station-recognise-reads.Pre station-recognise-reads.Post (λ κs a. station-recognise-reads.ensures κs a tt)
station-recognise-stated = record { determines = λ κs args r₁ r₂ w₁ w₂ x y. (x ∙ sym y, refl); free = λ κs args. tt; whole = λ κs args r e w. refl }

pub station-take-stated : Stated station-take-kinds.ps station-take-kinds.r station-take-reads.Pre station-take-reads.Post (λ κs a. station-take-reads.ensures κs a tt)
station-take-stated = record { determines = λ κs args r₁ r₂ w₁ w₂ x y. (x ∙ sym y, refl); free = λ κs args. tt; whole = λ κs args r e w. refl }

-- klumdray

pub klumdray-check-octet-stated : Stated klumdray-check-octet-kinds.ps klumdray-check-octet-kinds.r klumdray-check-octet-reads.Pre klumdray-check-octet-reads.Post (λ κs a. klumdray-check-octet-reads.ensures κs a tt)
klumdray-check-octet-stated = record { determines = λ κs args r₁ r₂ w₁ w₂ x y. (x ∙ sym y, refl); free = λ κs args. tt; whole = λ κs args r e w. refl }

pub klumdray-tp1-read-stated : Stated klumdray-tp1-read-kinds.ps klumdray-tp1-read-kinds.r klumdray-tp1-read-reads.Pre klumdray-tp1-read-reads.Post (λ κs a. klumdray-tp1-read-reads.ensures κs a tt)
klumdray-tp1-read-stated = record { determines = λ κs args r₁ r₂ w₁ w₂ x y. (x ∙ sym y, refl); free = λ κs args. tt; whole = λ κs args r e w. refl }

pub klumdray-tp1-write-stated : Stated klumdray-tp1-write-kinds.ps klumdray-tp1-write-kinds.r klumdray-tp1-write-reads.Pre klumdray-tp1-write-reads.Post (λ κs a. klumdray-tp1-write-reads.ensures κs a tt)
klumdray-tp1-write-stated = record { determines = λ κs args r₁ r₂ w₁ w₂ x y. let e = wrote-number-one x y in (e.0, λ i. (tt, (tt, (tt, (tt, (tt, (tt, (tt, (tt, (e.1 i, tt)))))))))); free = λ κs args. tt; whole = λ κs args r e w. refl }

pub klumdray-cemi-read-stated : Stated klumdray-cemi-read-kinds.ps klumdray-cemi-read-kinds.r klumdray-cemi-read-reads.Pre klumdray-cemi-read-reads.Post (λ κs a. klumdray-cemi-read-reads.ensures κs a tt)
klumdray-cemi-read-stated = record { determines = λ κs args r₁ r₂ w₁ w₂ x y. (x ∙ sym y, refl); free = λ κs args. tt; whole = λ κs args r e w. refl }

pub klumdray-cemi-write-stated : Stated klumdray-cemi-write-kinds.ps klumdray-cemi-write-kinds.r klumdray-cemi-write-reads.Pre klumdray-cemi-write-reads.Post (λ κs a. klumdray-cemi-write-reads.ensures κs a tt)
klumdray-cemi-write-stated = record { determines = λ κs args r₁ r₂ w₁ w₂ x y. let e = wrote-number-one x y in (e.0, λ i. (tt, (tt, (tt, (tt, (tt, (tt, (tt, (tt, (tt, (tt, (e.1 i, tt)))))))))))); free = λ κs args. tt; whole = λ κs args r e w. refl }

pub klumdray-routing-read-stated : Stated klumdray-routing-read-kinds.ps klumdray-routing-read-kinds.r klumdray-routing-read-reads.Pre klumdray-routing-read-reads.Post (λ κs a. klumdray-routing-read-reads.ensures κs a tt)
klumdray-routing-read-stated = record { determines = λ κs args r₁ r₂ w₁ w₂ x y. (x ∙ sym y, refl); free = λ κs args. tt; whole = λ κs args r e w. refl }

pub klumdray-routing-write-stated : Stated klumdray-routing-write-kinds.ps klumdray-routing-write-kinds.r klumdray-routing-write-reads.Pre klumdray-routing-write-reads.Post (λ κs a. klumdray-routing-write-reads.ensures κs a tt)
klumdray-routing-write-stated = record { determines = λ κs args r₁ r₂ w₁ w₂ x y. let e = wrote-number-one x y in (e.0, λ i. (tt, (tt, (tt, (tt, (tt, (tt, (tt, (tt, (tt, (tt, (e.1 i, tt)))))))))))); free = λ κs args. tt; whole = λ κs args r e w. refl }

pub klumdray-step-stated : Stated klumdray-step-kinds.ps klumdray-step-kinds.r klumdray-step-reads.Pre klumdray-step-reads.Post (λ κs a. klumdray-step-reads.ensures κs a tt)
klumdray-step-stated = record { determines = λ κs args r₁ r₂ w₁ w₂ x y. let e = stepped-one x y in (e.0, λ i. (tt, (tt, (tt, (e.1.0 i, (tt, (e.1.1 i, tt))))))); free = λ κs args. tt; whole = λ κs args r e w. refl }

pub klumdray-trace-stated : Stated klumdray-trace-kinds.ps klumdray-trace-kinds.r klumdray-trace-reads.Pre klumdray-trace-reads.Post (λ κs a. klumdray-trace-reads.ensures κs a tt)
klumdray-trace-stated = record { determines = λ κs args r₁ r₂ w₁ w₂ x y. let e = traced-through-one x y in (e.0, λ i. (tt, (tt, (tt, (tt, (tt, (tt, (tt, (e.1 i, tt))))))))); free = λ κs args. tt; whole = λ κs args r e w. refl }

pub klumdray-why-stated : Stated klumdray-why-kinds.ps klumdray-why-kinds.r klumdray-why-reads.Pre klumdray-why-reads.Post (λ κs a. klumdray-why-reads.ensures κs a tt)
klumdray-why-stated = record { determines = λ κs args r₁ r₂ w₁ w₂ x y. (x ∙ sym y, refl); free = λ κs args. tt; whole = λ κs args r e w. refl }

pub klumdray-tunnelling-request-read-stated : Stated klumdray-tunnelling-request-read-kinds.ps klumdray-tunnelling-request-read-kinds.r klumdray-tunnelling-request-read-reads.Pre klumdray-tunnelling-request-read-reads.Post (λ κs a. klumdray-tunnelling-request-read-reads.ensures κs a tt)
klumdray-tunnelling-request-read-stated = record { determines = λ κs args r₁ r₂ w₁ w₂ x y. (x ∙ sym y, refl); free = λ κs args. tt; whole = λ κs args r e w. refl }

pub klumdray-tunnelling-request-write-stated : Stated klumdray-tunnelling-request-write-kinds.ps klumdray-tunnelling-request-write-kinds.r klumdray-tunnelling-request-write-reads.Pre klumdray-tunnelling-request-write-reads.Post (λ κs a. klumdray-tunnelling-request-write-reads.ensures κs a tt)
klumdray-tunnelling-request-write-stated = record { determines = λ κs args r₁ r₂ w₁ w₂ x y. let e = wrote-number-one x y in (e.0, λ i. (tt, (tt, (tt, (tt, (tt, (tt, (tt, (tt, (tt, (tt, (tt, (tt, (e.1 i, tt)))))))))))))); free = λ κs args. tt; whole = λ κs args r e w. refl }

pub klumdray-tunnelling-ack-read-stated : Stated klumdray-tunnelling-ack-read-kinds.ps klumdray-tunnelling-ack-read-kinds.r klumdray-tunnelling-ack-read-reads.Pre klumdray-tunnelling-ack-read-reads.Post (λ κs a. klumdray-tunnelling-ack-read-reads.ensures κs a tt)
klumdray-tunnelling-ack-read-stated = record { determines = λ κs args r₁ r₂ w₁ w₂ x y. (x ∙ sym y, refl); free = λ κs args. tt; whole = λ κs args r e w. refl }

pub klumdray-tunnelling-ack-write-stated : Stated klumdray-tunnelling-ack-write-kinds.ps klumdray-tunnelling-ack-write-kinds.r klumdray-tunnelling-ack-write-reads.Pre klumdray-tunnelling-ack-write-reads.Post (λ κs a. klumdray-tunnelling-ack-write-reads.ensures κs a tt)
klumdray-tunnelling-ack-write-stated = record { determines = λ κs args r₁ r₂ w₁ w₂ x y. let e = wrote-number-one x y in (e.0, λ i. (tt, (tt, (tt, (e.1 i, tt))))); free = λ κs args. tt; whole = λ κs args r e w. refl }

pub klumdray-tunnelling-receive-stated : Stated klumdray-tunnelling-receive-kinds.ps klumdray-tunnelling-receive-kinds.r klumdray-tunnelling-receive-reads.Pre klumdray-tunnelling-receive-reads.Post (λ κs a. klumdray-tunnelling-receive-reads.ensures κs a tt)
klumdray-tunnelling-receive-stated = record { determines = λ κs args r₁ r₂ w₁ w₂ x y. let e = took-through-one x y in (e.0, λ i. (e.1.0 i, (tt, (e.1.1 i, tt)))); free = λ κs args. tt; whole = λ κs args r e w. refl }

pub klumdray-tunnelling-send-stated : Stated klumdray-tunnelling-send-kinds.ps klumdray-tunnelling-send-kinds.r klumdray-tunnelling-send-reads.Pre klumdray-tunnelling-send-reads.Post (λ κs a. klumdray-tunnelling-send-reads.ensures κs a tt)
klumdray-tunnelling-send-stated = record { determines = λ κs args r₁ r₂ w₁ w₂ x y. let e = sent-through-one x y in (e.0, λ i. (tt, (tt, (tt, (tt, (tt, (tt, (tt, (tt, (tt, (tt, (tt, (tt, (e.1 i, tt)))))))))))))); free = λ κs args. tt; whole = λ κs args r e w. refl }

pub klumdray-tunnelling-confirm-stated : Stated klumdray-tunnelling-confirm-kinds.ps klumdray-tunnelling-confirm-kinds.r klumdray-tunnelling-confirm-reads.Pre klumdray-tunnelling-confirm-reads.Post (λ κs a. klumdray-tunnelling-confirm-reads.ensures κs a tt)
klumdray-tunnelling-confirm-stated = record { determines = λ κs args r₁ r₂ w₁ w₂ x y. let e = confirmed-through-one x y in (e.0, λ i. (e.1 i, (tt, tt))); free = λ κs args. tt; whole = λ κs args r e w. refl }

pub klumdray-float-value-stated : Stated klumdray-float-value-kinds.ps klumdray-float-value-kinds.r klumdray-float-value-reads.Pre klumdray-float-value-reads.Post (λ κs a. klumdray-float-value-reads.ensures κs a tt)
klumdray-float-value-stated = record { determines = λ κs args r₁ r₂ w₁ w₂ x y. (x ∙ sym y, refl); free = λ κs args. tt; whole = λ κs args r e w. refl }

pub klumdray-float-read-stated : Stated klumdray-float-read-kinds.ps klumdray-float-read-kinds.r klumdray-float-read-reads.Pre klumdray-float-read-reads.Post (λ κs a. klumdray-float-read-reads.ensures κs a tt)
klumdray-float-read-stated = record { determines = λ κs args r₁ r₂ w₁ w₂ x y. (x ∙ sym y, refl); free = λ κs args. tt; whole = λ κs args r e w. refl }

pub klumdray-float-write-stated : Stated klumdray-float-write-kinds.ps klumdray-float-write-kinds.r klumdray-float-write-reads.Pre klumdray-float-write-reads.Post (λ κs a. klumdray-float-write-reads.ensures κs a tt)
klumdray-float-write-stated = record { determines = λ κs args r₁ r₂ w₁ w₂ x y. (x ∙ sym y, refl); free = λ κs args. tt; whole = λ κs args r e w. refl }

pub klumdray-increment-stated : Stated klumdray-increment-kinds.ps klumdray-increment-kinds.r klumdray-increment-reads.Pre klumdray-increment-reads.Post (λ κs a. klumdray-increment-reads.ensures κs a tt)
klumdray-increment-stated = record { determines = λ κs args r₁ r₂ w₁ w₂ x y. (x ∙ sym y, refl); free = λ κs args. tt; whole = λ κs args r e w. refl }

pub klumdray-total-add-stated : Stated klumdray-total-add-kinds.ps klumdray-total-add-kinds.r klumdray-total-add-reads.Pre klumdray-total-add-reads.Post (λ κs a. klumdray-total-add-reads.ensures κs a tt)
klumdray-total-add-stated = record { determines = λ κs args r₁ r₂ w₁ w₂ x y. let e = added-through-one x y in (e.0, λ i. (e.1 i, (tt, tt))); free = λ κs args. tt; whole = λ κs args r e w. refl }

pub klumdray-take-stated : Stated klumdray-take-kinds.ps klumdray-take-kinds.r klumdray-take-reads.Pre klumdray-take-reads.Post (λ κs a. klumdray-take-reads.ensures κs a tt)
klumdray-take-stated = record { determines = λ κs args r₁ r₂ w₁ w₂ x y. let e = took-frame-one x y in (e.0, λ i. (e.1.0 i, (e.1.1 i, (tt, (tt, tt))))); free = λ κs args. tt; whole = λ κs args r e w. refl }
