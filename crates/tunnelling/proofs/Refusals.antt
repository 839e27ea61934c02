-- What the two readers accept, and each refusal exactly in its listed case: frame's laws of a reader's tests in order, said of the
-- tests of header and connection header, and behind them of cEMI's in a request, of the last one in an acknowledgement. The refusal 1
-- is given by several tests: it is `refused-iff`.
use Rattle.std.specs.Prelude.{Ok, Err}
use Prim.Native.Nat.{ℕ, suc}
use mathlib.Core.Bool.{Bool, true, not}
use mathlib.Core.List.{List, ◌∷◌, ◌++◌}
use mathlib.Core.Logic.{◌↔◌}
use mathlib.Core.Path.{◌≡◌, refl}
use lib.Dec.{ltb, eqb}
use lib.ListN.{length, take, drop}
use Rattle.cemi.specs.Codes.{is_read}
use Rattle.cemi.specs.Reading.{information_size, body, is_other_format, is_escape, is_long_standard, body_size}
use Rattle.cemi.specs.declared.Codes.TheVariants.{All}
use Rattle.frame.proofs.Order.{gives_not, accepted-by, refused-by, once_by, results-differ}
use Rattle.frame.specs.Order.{NoneOf, FirstIs, ◌gives◌}
use Rattle.frame.specs.declared.Refusal.TheVariants.{OtherFormat, Escape, LeftOver, OtherCode, InformationEscape, LongStandard, OtherHeader, OtherService, OtherLength, OtherConnection}
use Rattle.frame.specs.declared.Refusal.{Refusal}
use Rattle.knxnetip.specs.Header.{is_other_header, is_other_service, is_other_length}
use Rattle.octets.specs.Octets.{octet_at}
use Rattle.tunnelling.specs.Layout.{request_service, acknowledgement_service}
use Rattle.tunnelling.specs.Reading.{message, is_other_connection, request_tests, request_in, read_request, acknowledgement_tests, acknowledgement_in, read_acknowledgement}
use Rattle.tunnelling.specs.declared.Acknowledgement.{Acknowledgement}
use Rattle.tunnelling.specs.declared.Request.{Request}

module _ (s : List ℕ) where
  -- accepted as the request x exactly if no test of the order is true and the octets are of that channel, counter and message
  pub request-accepted-iff : (x : Request) → read_request s ≡ Ok x ↔ (NoneOf (request_tests s) × (request_in s ≡ x))
  unfolding read_request
  request-accepted-iff = accepted-by results-differ (request_tests s) (request_in s)

  -- refused with r exactly if a test of the order that gives r is true and none before it is
  pub request-refused-iff : (r : Refusal) → read_request s ≡ Err r ↔ FirstIs (request_tests s) r
  unfolding read_request
  request-refused-iff = refused-by results-differ (request_tests s) (request_in s)

  request-once : (k : ℕ) (b : Bool) (r : Refusal) → request_tests s ≡ take k (request_tests s) ++ (b gives r ∷ drop (suc k) (request_tests s))
      → gives_not (take k (request_tests s)) r ≡ true → gives_not (drop (suc k) (request_tests s)) r ≡ true
      → read_request s ≡ Err r ↔ (NoneOf (take k (request_tests s)) × (b ≡ true))
  unfolding read_request
  request-once = once_by results-differ (request_tests s) (request_in s)

  -- the refusals that one test alone gives: exactly if that test is true and none before it is
  pub request-refused-10 : read_request s ≡ Err OtherHeader ↔ (NoneOf (take 1 (request_tests s)) × (is_other_header s ≡ true))
  request-refused-10 = request-once 1 _ OtherHeader refl refl refl

  pub request-refused-11 : read_request s ≡ Err OtherService ↔ (NoneOf (take 2 (request_tests s)) × (is_other_service request_service s ≡ true))
  request-refused-11 = request-once 2 _ OtherService refl refl refl

  pub request-refused-12 : read_request s ≡ Err OtherLength ↔ (NoneOf (take 3 (request_tests s)) × (is_other_length s ≡ true))
  request-refused-12 = request-once 3 _ OtherLength refl refl refl

  pub request-refused-19 : read_request s ≡ Err OtherConnection ↔ (NoneOf (take 5 (request_tests s)) × (is_other_connection s ≡ true))
  request-refused-19 = request-once 5 _ OtherConnection refl refl refl

  pub request-refused-7 : read_request s ≡ Err OtherCode ↔ (NoneOf (take 7 (request_tests s)) × (not (is_read All (octet_at (message s) 0)) ≡ true))
  request-refused-7 = request-once 7 _ OtherCode refl refl refl

  pub request-refused-8 : read_request s ≡ Err InformationEscape ↔ (NoneOf (take 9 (request_tests s)) × (eqb (information_size (message s)) 255 ≡ true))
  request-refused-8 = request-once 9 _ InformationEscape refl refl refl

  pub request-refused-3 : read_request s ≡ Err OtherFormat ↔ (NoneOf (take 11 (request_tests s)) × (is_other_format (body (message s)) ≡ true))
  request-refused-3 = request-once 11 _ OtherFormat refl refl refl

  pub request-refused-4 : read_request s ≡ Err Escape ↔ (NoneOf (take 12 (request_tests s)) × (is_escape (body (message s)) ≡ true))
  request-refused-4 = request-once 12 _ Escape refl refl refl

  pub request-refused-9 : read_request s ≡ Err LongStandard ↔ (NoneOf (take 13 (request_tests s)) × (is_long_standard (body (message s)) ≡ true))
  request-refused-9 = request-once 13 _ LongStandard refl refl refl

  pub request-refused-5 : read_request s ≡ Err LeftOver ↔ (NoneOf (take 15 (request_tests s)) × (ltb (body_size (body (message s))) (length (body (message s))) ≡ true))
  request-refused-5 = request-once 15 _ LeftOver refl refl refl

  -- an acknowledgement, likewise
  pub acknowledgement-accepted-iff : (a : Acknowledgement) → read_acknowledgement s ≡ Ok a ↔ (NoneOf (acknowledgement_tests s) × (acknowledgement_in s ≡ a))
  unfolding read_acknowledgement
  acknowledgement-accepted-iff = accepted-by results-differ (acknowledgement_tests s) (acknowledgement_in s)

  pub acknowledgement-refused-iff : (r : Refusal) → read_acknowledgement s ≡ Err r ↔ FirstIs (acknowledgement_tests s) r
  unfolding read_acknowledgement
  acknowledgement-refused-iff = refused-by results-differ (acknowledgement_tests s) (acknowledgement_in s)

  acknowledgement-once : (k : ℕ) (b : Bool) (r : Refusal) → acknowledgement_tests s ≡ take k (acknowledgement_tests s) ++ (b gives r ∷ drop (suc k) (acknowledgement_tests s))
      → gives_not (take k (acknowledgement_tests s)) r ≡ true → gives_not (drop (suc k) (acknowledgement_tests s)) r ≡ true
      → read_acknowledgement s ≡ Err r ↔ (NoneOf (take k (acknowledgement_tests s)) × (b ≡ true))
  unfolding read_acknowledgement
  acknowledgement-once = once_by results-differ (acknowledgement_tests s) (acknowledgement_in s)

  pub acknowledgement-refused-10 : read_acknowledgement s ≡ Err OtherHeader ↔ (NoneOf (take 1 (acknowledgement_tests s)) × (is_other_header s ≡ true))
  acknowledgement-refused-10 = acknowledgement-once 1 _ OtherHeader refl refl refl

  pub acknowledgement-refused-11 : read_acknowledgement s ≡ Err OtherService ↔ (NoneOf (take 2 (acknowledgement_tests s)) × (is_other_service acknowledgement_service s ≡ true))
  acknowledgement-refused-11 = acknowledgement-once 2 _ OtherService refl refl refl

  pub acknowledgement-refused-12 : read_acknowledgement s ≡ Err OtherLength ↔ (NoneOf (take 3 (acknowledgement_tests s)) × (is_other_length s ≡ true))
  acknowledgement-refused-12 = acknowledgement-once 3 _ OtherLength refl refl refl

  pub acknowledgement-refused-19 : read_acknowledgement s ≡ Err OtherConnection ↔ (NoneOf (take 5 (acknowledgement_tests s)) × (is_other_connection s ≡ true))
  acknowledgement-refused-19 = acknowledgement-once 5 _ OtherConnection refl refl refl

  -- "for an acknowledgement 5 comes last"
  pub acknowledgement-refused-5 : read_acknowledgement s ≡ Err LeftOver ↔ (NoneOf (take 6 (acknowledgement_tests s)) × (ltb 10 (length s) ≡ true))
  acknowledgement-refused-5 = acknowledgement-once 6 _ LeftOver refl refl refl
