-- Document 01, "Program output for the first of P12, whole": the five lines, computed from the definitions.
use Prim.Native.Nat.{ℕ}
use mathlib.Core.List.{List, [], ◌∷◌, ◌++◌}
use mathlib.Core.Path.{◌≡◌, refl}
use Rattle.passing.specs.Passing.{is_onward, is_own, is_in_table, is_ruled, may_pass}
use Rattle.passing.specs.Settings.{class_of, is_code, is_row, are_codes, asks_table}
use Rattle.site.specs.Letting.{record_passes, line_lets_pass}
use Rattle.site.specs.Records.{record_size, first_record, records_of, is_marked, codes_of, coupler_of}
use Rattle.site.specs.Stores.{is_stored, table_at, table_of, is_store, are_stores}
use Rattle.site.specs.WellFormed.{has_table, site_tests}
use Rattle.tracer.specs.Lines.{main_side, depth, main_sides, path, distance}
use Rattle.tracer.specs.Listing.{lasts, is_listed, entry, listed, is_forwarding, forwardings}
use Rattle.tracer.specs.Query.{on_arrival}
use Rattle.report.specs.Ascii.{ascii}
use Rattle.report.specs.Report.{query_tests, answer_text, report_of}
use Rattle.report.specs.Text.{decimal, told, told_line, line_text}

-- "couplers 20h, 40h, 45h, 47h, all open"
abbrev open_coupler : ℕ → List ℕ
open_coupler line = 0x43 ∷ 0x50 ∷ line ∷ 2 ∷ 2 ∷ 2 ∷ 2 ∷ 2 ∷ 2 ∷ 2 ∷ 2 ∷ 0xFF ∷ []

-- "group 1234h from 47h, count 2"
abbrev first_of_p12 : List ℕ
first_of_p12 = 0x47 ∷ 1 ∷ 0x12 ∷ 0x34 ∷ 2 ∷ open_coupler 0x20 ++ open_coupler 0x40 ++ open_coupler 0x45 ++ open_coupler 0x47

pub shown : report_of first_of_p12 ≡ ascii "0.0 count 0 crossed 2\n4.0 count 1 crossed 1\n4.5 count 0 crossed 2\n4.7 count 2 crossed 0\nforwardings 3\n"
unfolding is_onward is_own is_in_table is_ruled may_pass class_of is_code is_row are_codes asks_table
    record_passes line_lets_pass record_size first_record records_of is_marked codes_of coupler_of is_stored table_at table_of is_store are_stores has_table site_tests
    main_side depth main_sides path distance lasts is_listed on_arrival entry listed is_forwarding forwardings
    query_tests answer_text report_of decimal told told_line line_text
shown = refl
