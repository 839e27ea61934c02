-- Every case of the list holds, by computation from the definitions.
use mathlib.Core.Path.{refl}
use Rattle.octets.specs.Check.{check_octet}
use Rattle.octets.specs.Room.{laid}
use Rattle.frame.specs.Fields.{is_control, control_of, ctrle_of, fields_meaning}
use Rattle.tp1.specs.Layout.{head, sealed, tp1_octets}
use Rattle.tp1.specs.Reading.{is_extended, head_size, is_other_format, is_escape, frame_size, is_checked, meaning_in, read_tp1}
use Rattle.cemi.specs.Reading.{body, is_other_format as is_other_body, is_escape as is_escape_body, is_long_standard, body_size, message_in}
use Rattle.knxnetip.specs.Header.{is_other_header, is_other_service, is_other_length}
use Rattle.routing.specs.Reading.{read_routing}
use Rattle.passing.specs.Settings.{class_of, is_code, is_row, are_codes, asks_table, table_fits}
use Rattle.passing.specs.Passing.{is_own, is_in_table, is_below, is_onward, is_ruled, may_pass}
use Rattle.coupler.specs.Memory.{kept, recalled, zeros, remembering, remembered_on, unmarked, agree, is_repetition}
use Rattle.coupler.specs.Step.{heard, acknowledgement_by, form_of}
use Rattle.site.specs.Records.{record_size, first_record, records_of, is_marked, codes_of, coupler_of}
use Rattle.site.specs.Stores.{is_stored, table_at, table_of, is_store, are_stores}
use Rattle.site.specs.WellFormed.{has_table, site_tests}
use Rattle.site.specs.Letting.{record_passes, line_lets_pass}
use Rattle.tracer.specs.Lines.{main_side, depth, main_sides, path, distance}
use Rattle.tracer.specs.Query.{on_arrival}
use Rattle.tracer.specs.Listing.{lasts, is_listed, entry, listed, lines_listed, is_forwarding, forwardings}
use Rattle.leak.specs.Float.{mantissa_of, hundredths_of}
use Rattle.leak.specs.Increment.{increment_in}
use Rattle.leak.specs.Reading.{read_code}
use Rattle.leak.specs.Total.{in_total, add_to}
use Rattle.leak.specs.Writing.{nearest_to, smallest_e, code_for, write_code}
use Rattle.station.specs.Taking.{telegram_by, telegram_in, summed_by, taken_by}
use Rattle.promises.specs.Telegrams.{Every, cases}

pub every : Every cases
unfolding check_octet laid is_control control_of ctrle_of fields_meaning head sealed tp1_octets is_extended head_size is_other_format is_escape frame_size is_checked meaning_in read_tp1 body is_other_body is_escape_body is_long_standard body_size message_in is_other_header is_other_service is_other_length read_routing class_of is_code is_row are_codes asks_table table_fits is_own is_in_table is_below is_onward is_ruled may_pass kept recalled zeros remembering remembered_on unmarked agree is_repetition heard acknowledgement_by form_of record_size first_record records_of is_marked codes_of coupler_of is_stored table_at table_of is_store are_stores has_table site_tests record_passes line_lets_pass main_side depth main_sides path distance lasts is_listed on_arrival entry listed lines_listed is_forwarding forwardings mantissa_of hundredths_of increment_in read_code in_total add_to nearest_to smallest_e code_for write_code telegram_by telegram_in summed_by taken_by
every = ((refl, refl), ((refl, refl), ((refl, refl), ((refl, refl), ((refl, refl), ((refl, refl), ((refl, refl), ((refl, refl), ((refl, refl), ((refl, refl), ((refl, refl), ((refl, refl), ((refl, refl), ((refl, refl), ((refl, refl), ((refl, refl), ((refl, refl), (refl, (refl, (refl, (refl, (refl, (refl, (refl, (refl, (refl, (refl, (refl, (refl, (refl, (refl, (refl, (refl, (refl, (refl, tt)))))))))))))))))))))))))))))))))))
