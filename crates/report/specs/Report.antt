-- Document 01: what the program writes for what it reads.
use Rattle.std.specs.Prelude.{ℕ, List, [], ◌∷◌, ◌++◌, ◌≡◌, ltb, length, drop, Result, Ok, Err}
use Rattle.octets.specs.Octets.{octet_at}
use Rattle.octets.specs.Word.{word_at}
use Rattle.frame.specs.Order.{Test, first_of, answer_by, ◌gives◌}
use Rattle.frame.specs.Refusals.{number}
use Rattle.frame.specs.Writing.{room_after}
use Rattle.frame.specs.declared.Refusal.TheVariants.{TooFew, LeftOver, SmallRoom}
use Rattle.site.specs.Stores.{Stores, stores}
use Rattle.tracer.specs.Listing.{listed, forwardings}
use Rattle.tracer.specs.Query.{query_of}
use Rattle.tracer.specs.Tracing.{trace_tests}
use Rattle.tracer.specs.declared.Query.{Query}
use Rattle.report.specs.Ascii.{ascii}
use Rattle.report.specs.Text.{told_line, list_text}
use Rattle.frame.specs.declared.Refusal.{Refusal}

-- "The program reads line, kind, destination (2), count, then records to the end, with empty stores."
abbrev pub query_in : List ℕ → Query
query_in s = query_of (octet_at s 0) (octet_at s 1) (word_at s 2) (octet_at s 4)

abbrev pub site_in : List ℕ → List ℕ
site_in s = drop 5 s

abbrev pub no_stores : Stores
no_stores = stores [] []

-- the tracer's own tests of them, its room being large enough
unfoldable pub query_tests : List ℕ → List Test
query_tests s = trace_tests no_stores (site_in s) (query_in s) 768

-- "Fewer than 5 octets, or more than 3,065 in all, are refused by 1 and 5."
abbrev pub report_tests : List ℕ → List Test
report_tests s =
    ltb (length s) 5 gives TooFew
    ∷ ltb 3065 (length s) gives LeftOver
    ∷ query_tests s

-- a line for each listed one, and how many forwardings were made; "On refusal it writes `refused N`."
unfoldable pub answer_text : List ℕ → Result (Unit {0}) Refusal → List ℕ
answer_text s (Ok _) =
    list_text (listed no_stores (site_in s) (query_in s))
    ++ told_line (ascii "forwardings ") (forwardings no_stores (site_in s) (query_in s))
answer_text s (Err r) = told_line (ascii "refused ") (number r)

unfoldable pub report_of : List ℕ → List ℕ
report_of s = answer_text s (first_of (report_tests s))

-- a room of 8,192 octets has every report: 256 lines of at most 28, and a last one of at most 33
unfoldable pub reported : List ℕ → List ℕ → Result ℕ Refusal
reported s room =
    answer_by Err (Ok (length (report_of s)))
    (first_of (ltb (length room) 8192 gives SmallRoom ∷ []))

-- what the call answers and leaves in the room
pub record Reported (s room : List ℕ) (answer : Result ℕ Refusal) (after : List ℕ) : Type 0 where
  pub answered : answer ≡ reported s room
  pub left : after ≡ room_after answer (report_of s) room
