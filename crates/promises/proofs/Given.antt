-- The numbers that a C caller gives, each with the range that include/klumdray.h says: "none is cut on its way, and one outside its range is
-- refused". Each call that takes numbers answers 14 exactly if one of them is outside, and has then written nothing. A step has its 14 in its
-- place of the order. The contracts' tests, which are divided between the surface and the calls inside, come to these ranges.
use Rattle.std.specs.Prelude.{Result, Ok, Err, Option}
use Prim.Native.Nat.{ℕ, suc, ◌*◌, ◌≤◌, ◌<◌}
use mathlib.Core.Bool.{Bool, true, false, cond, not, ◌&&◌, ◌||◌}
use mathlib.Core.List.{List, [], ◌∷◌}
use mathlib.Core.Logic.Iff
use mathlib.Core.Logic.{◌↔◌}
use mathlib.Core.Path.{◌≡◌, refl, sym, ap, ◌∙◌}
use native.Mathlib.Omega.{arith}
use lib.Dec.{ltb, leb, eqb}
use lib.ListN.{length}
use borrow.Author.Tests.{ltb-true, leb-true, eqb-true, eqb-false, eq-eqb, lt-ltb, le-leb, not-true}
use Rattle.cemi.proofs.LayoutLaws.{MessageRanges, message-ranges}
use Rattle.cemi.specs.Codes.{is_read, is_confirmation}
use Rattle.cemi.specs.Writing.{message_in_range}
use Rattle.cemi.specs.declared.Codes.{Codes}
use Rattle.cemi.specs.declared.Codes.TheVariants.{All, IndicationOnly}
use Rattle.cemi.specs.declared.Message.{Message}
use Rattle.coupler.specs.Step.{heard, nothing}
use Rattle.channels.specs.Table.{many, channel_at}
use Rattle.channels.specs.declared.Channel.{Channel}
use Rattle.exchange.specs.Sending.{sent_by}
use Rattle.frame.proofs.Apart.{err-ok, err-one}
use Rattle.frame.proofs.Numbers.{number-some}
use Rattle.frame.proofs.Order.{gives_not, never-given, chose-refused, refusal-once}
use Rattle.frame.proofs.Valid.{Ranges, ranges-of, ranged}
use Rattle.frame.proofs.Writing.{unranged-iff}
use Rattle.frame.specs.Answers.{Numbered}
use Rattle.frame.specs.Order.{Test, first_of, answer_by, ◌gives◌}
use Rattle.frame.specs.Refusals.{number}
use Rattle.frame.specs.Valid.{in_range}
use Rattle.frame.specs.declared.Meaning.{Meaning}
use Rattle.frame.specs.declared.Refusal.{Refusal}
use Rattle.frame.specs.declared.Refusal.TheVariants.{WrongSetting, NoTable, SmallRoom, OutOfRange, NotOpen}
use Rattle.klumdray.proofs.BlockLaws.{unsided, unsided-heard}
use Rattle.klumdray.proofs.Telling.{number-alone}
use Rattle.klumdray.specs.Block.{codes_in, coupler_set, lent_right, heard_through, SteppedThrough}
use Rattle.klumdray.specs.Decoding.{number_in}
use Rattle.klumdray.specs.Channels.{channel_size, channels_in, are_channels, SentThrough}
use Rattle.klumdray.specs.Numbers.{are_flags, are_octets, are_words, are_numbers, are_marks, are_connected, meaning_from, message_from, acknowledgement_from, WroteTp1, WroteCemi, WroteRouting, WroteRequest, WroteAcknowledgement}
use Rattle.klumdray.specs.Traces.{explanation_number, query_fits, TracedThrough, why_through_tests, why_through}
use Rattle.octets.proofs.Truth.{by_cases, never, and-true}
use Rattle.octets.specs.Octets.{octet_at, Octets}
use Rattle.passing.specs.Settings.{are_codes, table_fits}
use Rattle.site.proofs.Refusals.{site-are, gives-none-below}
use Rattle.site.specs.Stores.{Stores}
use Rattle.site.specs.WellFormed.{site_tests}
use Rattle.tracer.proofs.Answers.{why-answers}
use Rattle.tracer.specs.Answers.{explanation_numbered}
use Rattle.tracer.specs.Query.{query_of, is_query}
use Rattle.tracer.specs.Why.{why_of}
use Rattle.tracer.specs.declared.Query.{Query}
use Rattle.tunnelling.specs.Layout.{request_octets, acknowledgement_octets}
use Rattle.promises.proofs.Step.{refused-answer}
use Rattle.promises.proofs.SurfaceTunnelling.{request-write-back, ack-write-back, send-back, send-refused-stays}
use Rattle.promises.proofs.Surface.{WritesBack, tp1-write-back, cemi-write-back, routing-write-back, step-refused-stays, trace-back, trace-refused-stays, why-back}
use Rattle.tracer.specs.declared.Stop.{Stop}

infix 70 ◌from◌to◌
-- a number that is given, and the lowest and the highest of its range
pub data Given : Type 0 where
  ◌from◌to◌ : ℕ → ℕ → ℕ → Given

-- each is inside its range
abbrev pub AllInside : List Given → Type 0
AllInside [] = Unit {0}
AllInside (n from low to high ∷ more) = ((low ≤ n) × (n ≤ high)) × AllInside more

-- "a number .. outside its range (14)", and no other cause; "A refused call has written nothing."
pub record RefusesOutside (Inside : Type 0) (answer : ℕ) (Stays : Type 0) : Type 0 where
  pub refused : (Inside → ⊥) ↔ (answer ≡ 14)
  pub stays : (Inside → ⊥) → Stays

refuses-outside : {Inside Stays : Type 0} {answer : ℕ} (b : Bool) → answer ≡ 14 ↔ (b ≡ false) → b ≡ true ↔ Inside → ((number_in answer ≡ 0 → ⊥) → Stays) → RefusesOutside Inside answer Stays
refuses-outside {Inside} {Stays} {answer} b r i s = record { refused = (outside, λ e n. never (sym (i.1 n) ∙ r.0 e)); stays = λ n. s (some (outside n)) }
  where
    outside : (Inside → ⊥) → answer ≡ 14
    outside n = r.1 (by_cases b (λ e. absurd (n (i.0 e))) (λ e. e))

    some : answer ≡ 14 → number_in answer ≡ 0 → ⊥
    some e z = eqb-false 14 0 refl (sym (ap number_in e) ∙ z)

up_to : (n high : ℕ) → n < suc high → (0 ≤ n) × (n ≤ high)
up_to n high h = (omega arith, omega arith)

-- the writers

-- "extended 0, 1   first_sending 0, 1   priority 0 to 3   group 0, 1   count 0 to 7"; "source, destination 0000h to FFFFh"; "payload: TPCI
-- onward, 1 to 16 octets standard, 1 to 255 extended"
abbrev pub frame_numbers : ℕ → ℕ → ℕ → ℕ → ℕ → ℕ → ℕ → ℕ → List Given
frame_numbers extended first priority source group destination count payload =
    extended from 0 to 1
    ∷ first from 0 to 1
    ∷ priority from 0 to 3
    ∷ source from 0 to 0xFFFF
    ∷ group from 0 to 1
    ∷ destination from 0 to 0xFFFF
    ∷ count from 0 to 7
    ∷ payload from 1 to cond (eqb extended 1) 255 16
    ∷ []

-- "code 11h, 2Eh, 29h   error_mark 0, 1 in a confirmation (2Eh), else 0   others as on TP1"; in routing "code 29h   error_mark 0"
abbrev pub MessageInside : Codes → ℕ → ℕ → List Given → Type 0
MessageInside codes code error frame = (is_read codes code ≡ true) × AllInside (error from 0 to cond (is_confirmation code) 1 0 ∷ frame)

read-octet : (codes : Codes) (code : ℕ) → is_read codes code ≡ true → code < 256
read-octet All code e =
    by_cases (eqb code 0x11)
    (λ a. omega (arith, eqb-true code 0x11 a))
    (λ a. by_cases (eqb code 0x2E) (λ b. omega (arith, eqb-true code 0x2E b)) (λ b. omega (arith, eqb-true code 0x29 (rw (a, b) at e))))
read-octet IndicationOnly code e = omega (arith, eqb-true code 0x29 e)

module _ (error : ℕ) where
  mark-inside : (confirmation : Bool) → error < 2 → confirmation || not (eqb error 1) ≡ true → (0 ≤ error) × (error ≤ cond confirmation 1 0)
  mark-inside true h e = up_to error 1 h
  mark-inside false h e = let n : error ≡ 1 → ⊥ = eqb-false error 1 (not-true (eqb error 1) e) in (omega arith, omega arith)

  mark-fits : (confirmation : Bool) → error ≤ cond confirmation 1 0 → (error < 2) × (confirmation || not (eqb error 1) ≡ true)
  mark-fits true h = (omega arith, refl)
  mark-fits false h = let e : error ≡ 0 = omega arith in (omega arith, rw e refl)

-- numbers of one octet
two-inside : (a b : ℕ) → are_octets a b ≡ true ↔ AllInside (a from 0 to 0xFF ∷ b from 0 to 0xFF ∷ [])
unfolding are_octets
two-inside a b = (
  (λ e. let x = and-true (ltb a 256) (ltb b 256) e in (up_to a 0xFF (ltb-true a 256 x.0), (up_to b 0xFF (ltb-true b 256 x.1), tt))),
  λ x. rw (lt-ltb a 256 (omega (arith, x.0.1)), lt-ltb b 256 (omega (arith, x.1.0.1))),
)

three-inside : (a b c : ℕ) → are_connected a b c ≡ true ↔ AllInside (a from 0 to 0xFF ∷ b from 0 to 0xFF ∷ c from 0 to 0xFF ∷ [])
unfolding are_connected
three-inside a b c = (
  (λ e.
      let x = and-true (ltb a 256 && ltb b 256) (ltb c 256) e in
      let y = and-true (ltb a 256) (ltb b 256) x.0 in
      (up_to a 0xFF (ltb-true a 256 y.0), (up_to b 0xFF (ltb-true b 256 y.1), (up_to c 0xFF (ltb-true c 256 x.1), tt)))),
  λ x. rw (lt-ltb a 256 (omega (arith, x.0.1)), lt-ltb b 256 (omega (arith, x.1.0.1)), lt-ltb c 256 (omega (arith, x.1.1.0.1))),
)

-- one test more beside those of the message, and one before them
beside : {A B : Type 0} (f o m : Bool) → o ≡ true ↔ A → f && m ≡ true ↔ B → f && o && m ≡ true ↔ (A × B)
beside true true true a b = ((λ e. (a.0 refl, b.0 refl)), λ e. refl)
beside true true false a b = ((λ e. never (sym e)), λ x. b.1 x.1)
beside true false m a b = ((λ e. never (sym e)), λ x. never (sym (a.1 x.0)))
beside false o m a b = ((λ e. never (sym e)), λ x. never (sym (b.1 x.1)))

before : {A B : Type 0} (o f m : Bool) → o ≡ true ↔ A → f && m ≡ true ↔ B → o && f && m ≡ true ↔ (A × B)
before true true true a b = ((λ e. (a.0 refl, b.0 refl)), λ e. refl)
before true true false a b = ((λ e. never (sym e)), λ x. b.1 x.1)
before true false m a b = ((λ e. never (sym e)), λ x. never (sym (b.1 x.1)))
before false f m a b = ((λ e. never (sym e)), λ x. never (sym (a.1 x.0)))

-- 14 stands first in the order of sending, and nowhere else
send-unranged : (ranged : Bool) (c : Channel) (octets : List ℕ) (room : ℕ) → sent_by ranged c octets room ≡ Err OutOfRange ↔ (ranged ≡ false)
unfolding sent_by
send-unranged ranged c octets room =
    let w = refusal-once Err (λ q r. err-one) [] (not c.opened gives NotOpen ∷ ltb room (length octets) gives SmallRoom ∷ []) (not ranged) (Ok (length octets)) OutOfRange err-ok refl refl in
    ((λ e. not-true ranged (w.0 e).1), λ e. w.1 (tt, ap not e))

module _ (extended first priority source group destination count : ℕ) where
  abbrev fit : Bool
  fit = are_numbers extended first priority source group destination count

  abbrev meaning : Meaning
  meaning = meaning_from extended first priority source group destination count

  frame-inside : (k : ℕ) → fit && in_range meaning k ≡ true ↔ AllInside (frame_numbers extended first priority source group destination count k)
  unfolding are_flags are_octets are_words
  frame-inside k = (inside, fitting)
    where
      inside : fit && in_range meaning k ≡ true → AllInside (frame_numbers extended first priority source group destination count k)
      inside x =
          let both = and-true fit (in_range meaning k) x in
          let ranges : Ranges meaning k = ranges-of meaning k both.1 in
          let narrow = and-true (are_flags extended first group && are_octets priority count) (are_words source destination) both.0 in
          let words = and-true (ltb source 65536) (ltb destination 65536) narrow.1 in
          let flags = and-true (ltb extended 2 && ltb first 2) (ltb group 2) (and-true (are_flags extended first group) (are_octets priority count) narrow.0).0 in
          let two = and-true (ltb extended 2) (ltb first 2) flags.0 in
          let e = up_to extended 1 (ltb-true extended 2 two.0) in
          let f = up_to first 1 (ltb-true first 2 two.1) in
          let p = up_to priority 3 ranges.priority in
          let s = up_to source 0xFFFF (ltb-true source 65536 words.0) in
          let g = up_to group 1 (ltb-true group 2 flags.1) in
          let d = up_to destination 0xFFFF (ltb-true destination 65536 words.1) in
          let c = up_to count 7 ranges.count in
          (e, (f, (p, (s, (g, (d, (c, ((ranges.some, ranges.most), tt))))))))

      fitting : AllInside (frame_numbers extended first priority source group destination count k) → fit && in_range meaning k ≡ true
      fitting (e, (f, (p, (s, (g, (d, (c, (l, u)))))))) =
          rw (
            lt-ltb extended 2 (omega (arith, e.1)),
            lt-ltb first 2 (omega (arith, f.1)),
            lt-ltb group 2 (omega (arith, g.1)),
            lt-ltb priority 256 (omega (arith, p.1)),
            lt-ltb count 256 (omega (arith, c.1)),
            lt-ltb source 65536 (omega (arith, s.1)),
            lt-ltb destination 65536 (omega (arith, d.1)),
            ranged meaning k (record { priority = omega (arith, p.1); count = omega (arith, c.1); some = l.0; most = l.1 }),
          )

  -- one law for every writer
  writes-inside : {b : Bool} {octets room : List ℕ} {size answer : ℕ} {after : List ℕ} {Inside : Type 0} → WritesBack b octets room size answer after → b ≡ true ↔ Inside
      → RefusesOutside Inside answer (after ≡ room)
  writes-inside {b} {octets} {room} w i = refuses-outside b (Iff.trans (w.told.refused OutOfRange) (unranged-iff b octets room)) i w.stays

  pub tp1-write-numbers : (p room : List ℕ) (answer : ℕ) (after : List ℕ) → WroteTp1 fit meaning p room answer after
      → RefusesOutside (AllInside (frame_numbers extended first priority source group destination count (length p))) answer (after ≡ room)
  tp1-write-numbers p room answer after w = writes-inside (tp1-write-back fit meaning p room answer after w) (frame-inside (length p))

  module _ (codes : Codes) (code error : ℕ) where
    abbrev message : Message
    message = message_from code error meaning

    message-inside : (k : ℕ) → fit && are_marks code error && message_in_range codes message k ≡ true ↔ MessageInside codes code error (frame_numbers extended first priority source group destination count k)
    unfolding are_marks message_in_range
    message-inside k = (inside, fitting)
      where
        inside : fit && are_marks code error && message_in_range codes message k ≡ true → MessageInside codes code error (frame_numbers extended first priority source group destination count k)
        inside x =
            let both = and-true (fit && are_marks code error) (message_in_range codes message k) x in
            let narrow = and-true fit (are_marks code error) both.0 in
            let marks = and-true (ltb code 256) (ltb error 2) narrow.1 in
            let r : MessageRanges codes message k = message-ranges codes message k both.1 in
            let mark = mark-inside error (is_confirmation code) (ltb-true error 2 marks.1) r.mark in
            (r.code, (mark, (frame-inside k).0 (rw (narrow.0, r.meaning))))

        fitting : MessageInside codes code error (frame_numbers extended first priority source group destination count k) → fit && are_marks code error && message_in_range codes message k ≡ true
        fitting (r, (m, f)) =
            let mark = mark-fits error (is_confirmation code) m.1 in
            let framed = and-true fit (in_range meaning k) ((frame-inside k).1 f) in
            rw (framed.0, framed.1, lt-ltb code 256 (read-octet codes code r), lt-ltb error 2 mark.0, r, mark.1)

  pub cemi-write-numbers : (code error : ℕ) (p room : List ℕ) (answer : ℕ) (after : List ℕ) → WroteCemi (fit && are_marks code error) (message_from code error meaning) p room answer after
      → RefusesOutside (MessageInside All code error (frame_numbers extended first priority source group destination count (length p))) answer (after ≡ room)
  cemi-write-numbers code error p room answer after w =
      writes-inside (cemi-write-back (fit && are_marks code error) (message_from code error meaning) p room answer after w) (message-inside All code error (length p))

  pub routing-write-numbers : (code error : ℕ) (p room : List ℕ) (answer : ℕ) (after : List ℕ) → WroteRouting (fit && are_marks code error) (message_from code error meaning) p room answer after
      → RefusesOutside (MessageInside IndicationOnly code error (frame_numbers extended first priority source group destination count (length p))) answer (after ≡ room)
  routing-write-numbers code error p room answer after w =
      writes-inside (routing-write-back (fit && are_marks code error) (message_from code error meaning) p room answer after w) (message-inside IndicationOnly code error (length p))

  -- "channel, counter 0 to 255   others as for klumdray_cemi_write"
  pub request-write-numbers : (channel counter code error : ℕ) (p room : List ℕ) (answer : ℕ) (after : List ℕ)
      → WroteRequest (fit && are_marks code error && are_octets channel counter) channel counter (message_from code error meaning) p room answer after
      → RefusesOutside (AllInside (channel from 0 to 0xFF ∷ counter from 0 to 0xFF ∷ []) × MessageInside All code error (frame_numbers extended first priority source group destination count (length p))) answer (after ≡ room)
  request-write-numbers channel counter code error p room answer after w =
      writes-inside (request-write-back (fit && are_marks code error && are_octets channel counter) channel counter (message_from code error meaning) p room answer after w)
      (beside (fit && are_marks code error) (are_octets channel counter) (message_in_range All (message_from code error meaning) (length p)) (two-inside channel counter) (message-inside All code error (length p)))

  -- a request that is sent: "a number or the payload's length outside its range as klumdray_cemi_write (14)", and the block's length before it;
  -- the channel has no range
  pub send-numbers : (block : List ℕ) (channel code error : ℕ) (p room : List ℕ) (answer : ℕ) (after : List ℕ)
      → SentThrough (fit && are_marks code error) block channel (message_from code error meaning) p room answer after
      → RefusesOutside ((length block ≡ channel_size * many) × MessageInside All code error (frame_numbers extended first priority source group destination count (length p))) answer (after ≡ room)
  send-numbers block channel code error p room answer after w =
      refuses-outside (are_channels block && (fit && are_marks code error) && message_in_range All (message_from code error meaning) (length p))
      (Iff.trans ((send-back w).refused OutOfRange) (send-unranged (are_channels block && (fit && are_marks code error) && message_in_range All (message_from code error meaning) (length p)) (channel_at (channels_in block) channel) (request_octets channel (channel_at (channels_in block) channel).send (message_from code error meaning) p) (length room)))
      (before (are_channels block) (fit && are_marks code error) (message_in_range All (message_from code error meaning) (length p)) (eqb-true (length block) (channel_size * many), eq-eqb (length block) (channel_size * many)) (message-inside All code error (length p)))
      (send-refused-stays w)

-- "channel, counter, status 0 to 255"
pub ack-write-numbers : (channel counter status : ℕ) (room : List ℕ) (answer : ℕ) (after : List ℕ) → WroteAcknowledgement (are_connected channel counter status) (acknowledgement_from channel counter status) room answer after
    → RefusesOutside (AllInside (channel from 0 to 0xFF ∷ counter from 0 to 0xFF ∷ status from 0 to 0xFF ∷ [])) answer (after ≡ room)
ack-write-numbers channel counter status room answer after w =
    let b = ack-write-back (are_connected channel counter status) (acknowledgement_from channel counter status) room answer after w in
    refuses-outside (are_connected channel counter status) (Iff.trans (b.told.refused OutOfRange) (unranged-iff (are_connected channel counter status) (acknowledgement_octets (acknowledgement_from channel counter status)) room)) (three-inside channel counter status) b.stays

-- the tracer's calls

-- "start: the starting line, 00h to FFh   kind: 0 individual, 1 group", "destination: 0000h to FFFFh", "count: on the starting line, 0 to 7"
abbrev pub query_numbers : ℕ → ℕ → ℕ → ℕ → List Given
query_numbers start kind destination count =
    start from 0 to 0xFF
    ∷ kind from 0 to 1
    ∷ destination from 0 to 0xFFFF
    ∷ count from 0 to 7
    ∷ []

-- 14 stands twice at the head of their orders and nowhere behind
first_two : (fits query : Bool) (us : List Test) → gives_not us OutOfRange ≡ true → first_of (not fits gives OutOfRange ∷ not query gives OutOfRange ∷ us) ≡ Err OutOfRange ↔ (fits && query ≡ false)
first_two true true us g = (never-given us OutOfRange g, never)
first_two true false us g = ((λ e. refl), λ e. refl)
first_two false query us g = ((λ e. refl), λ e. refl)

module _ (start kind destination count : ℕ) where
  abbrev asked : Query
  asked = query_of start kind destination count

  query-inside : query_fits asked && is_query asked ≡ true ↔ AllInside (query_numbers start kind destination count)
  unfolding query_fits
  query-inside = (inside, fitting)
    where
      inside : query_fits asked && is_query asked ≡ true → AllInside (query_numbers start kind destination count)
      inside x =
          let both = and-true (query_fits asked) (is_query asked) x in
          let query = and-true (leb kind 1) (leb count 7) both.1 in
          let three = and-true (ltb start 256 && ltb kind 256) (ltb destination 65536) (and-true (ltb start 256 && ltb kind 256 && ltb destination 65536) (ltb count 256) both.0).0 in
          let s = up_to start 0xFF (ltb-true start 256 (and-true (ltb start 256) (ltb kind 256) three.0).0) in
          let k = up_to kind 1 (omega (arith, leb-true kind 1 query.0)) in
          let d = up_to destination 0xFFFF (ltb-true destination 65536 three.1) in
          let c = up_to count 7 (omega (arith, leb-true count 7 query.1)) in
          (s, (k, (d, (c, tt))))

      fitting : AllInside (query_numbers start kind destination count) → query_fits asked && is_query asked ≡ true
      fitting (s, (k, (d, (c, u)))) =
          rw (
            lt-ltb start 256 (omega (arith, s.1)),
            lt-ltb kind 256 (omega (arith, k.1)),
            lt-ltb destination 65536 (omega (arith, d.1)),
            lt-ltb count 256 (omega (arith, c.1)),
            le-leb kind 1 k.1,
            le-leb count 7 c.1,
          )

  module _ (st : Stores) (site : List ℕ) where
    site-without : gives_not (site_tests st site) OutOfRange ≡ true
    site-without = gives-none-below (site_tests st site) OutOfRange (site-are st site) (omega arith)

    pub trace-numbers : (room : List ℕ) (answer : ℕ) (room' : List ℕ) → TracedThrough st site asked room answer room'
        → RefusesOutside (AllInside (query_numbers start kind destination count)) answer (room' ≡ room)
    trace-numbers room answer room' w =
        refuses-outside (query_fits asked && is_query asked)
        (Iff.trans ((trace-back st site asked room answer room' w).refused OutOfRange) (first_two (query_fits asked) (is_query asked) (ltb (length room) 768 gives SmallRoom ∷ site_tests st site) site-without))
        query-inside (trace-refused-stays st site asked room answer room' w)

    -- "line: 00h to FFh"; nothing is lent for an explanation
    module _ (line : ℕ) where
      line-inside : query_fits asked && ltb line 256 && is_query asked ≡ true ↔ AllInside (line from 0 to 0xFF ∷ query_numbers start kind destination count)
      line-inside = (inside, fitting)
        where
          inside : query_fits asked && ltb line 256 && is_query asked ≡ true → AllInside (line from 0 to 0xFF ∷ query_numbers start kind destination count)
          inside x =
              let both = and-true (query_fits asked && ltb line 256) (is_query asked) x in
              let two = and-true (query_fits asked) (ltb line 256) both.0 in
              (up_to line 0xFF (ltb-true line 256 two.1), query-inside.0 (rw (two.0, both.1)))

          fitting : AllInside (line from 0 to 0xFF ∷ query_numbers start kind destination count) → query_fits asked && ltb line 256 && is_query asked ≡ true
          fitting (l, q) =
              let both = and-true (query_fits asked) (is_query asked) (query-inside.1 q) in
              rw (both.0, both.1, lt-ltb line 256 (omega (arith, l.1)))

      never-refused : (r : Refusal) → Err r ≡ why_of st site asked line → ⊥
      never-refused r e = number-some r (ap (λ (a : Result (Option Stop) Refusal). (explanation_numbered a).number) e ∙ ap (λ (i : Numbered). i.number) (why-answers st site asked line))

      why-refused : why_through st site asked line ≡ Err OutOfRange ↔ (first_of (why_through_tests st site asked line) ≡ Err OutOfRange)
      unfolding why_through
      why-refused = (
        chose-refused Err (λ q r e. cc) (first_of (why_through_tests st site asked line)) (why_of st site asked line) OutOfRange (never-refused OutOfRange),
        ap (answer_by Err (why_of st site asked line)),
      )

      pub why-numbers : (AllInside (line from 0 to 0xFF ∷ query_numbers start kind destination count) → ⊥) ↔ (explanation_number (why_through st site asked line) ≡ 14)
      why-numbers =
          let told = (why-back st site asked line).refused OutOfRange in
          let order = first_two (query_fits asked && ltb line 256) (is_query asked) (site_tests st site) site-without in
          (refuses-outside {Stays = Unit {0}} (query_fits asked && ltb line 256 && is_query asked) (Iff.trans told (Iff.trans why-refused order)) line-inside (λ n. tt)).refused

-- the step

-- "Refusals, the first that applies: settings not 10 or memory not 530 octets long (14), line or a code (15), the table's length (18), side
-- or medium (14)": the order of a step whose side is none
abbrev pub up_to_the_side : List ℕ → List ℕ → List ℕ → List Test
up_to_the_side settings table block =
    not (lent_right settings block) gives OutOfRange
    ∷ (eqb (octet_at settings 0) 0 || not (are_codes (codes_in settings))) gives WrongSetting
    ∷ not (table_fits (codes_in settings) (length table)) gives NoTable
    ∷ true gives OutOfRange
    ∷ []

-- the one that it comes to
abbrev drawn : List ℕ → List ℕ → List ℕ → Refusal
drawn settings table block = cond (lent_right settings block) (unsided settings table) OutOfRange

first-drawn : (settings table block : List ℕ) → first_of (up_to_the_side settings table block) ≡ Err (drawn settings table block)
first-drawn settings table block = go (lent_right settings block) (eqb (octet_at settings 0) 0 || not (are_codes (codes_in settings))) (table_fits (codes_in settings) (length table))
  where
    go : (right wrong fits : Bool) → first_of (not right gives OutOfRange ∷ wrong gives WrongSetting ∷ not fits gives NoTable ∷ true gives OutOfRange ∷ [])
        ≡ Err (cond right (cond wrong WrongSetting (cond (not fits) NoTable OutOfRange)) OutOfRange)
    go false wrong fits = refl
    go true true fits = refl
    go true false true = refl
    go true false false = refl

-- "side: the receiving side, 0 main, 1 sub": every other number draws its 14, or what comes before it, and room and memory stay
pub step-side : (settings table block s room : List ℕ) (side answer : ℕ) (block' room' : List ℕ) → Octets s → Octets block
    → SteppedThrough (lent_right settings block) (coupler_set settings side table) block s room answer block' room'
    → (AllInside (side from 0 to 1 ∷ []) → ⊥) → (r : Refusal) → first_of (up_to_the_side settings table block) ≡ Err r
    → (answer ≡ number r) × ((block' ≡ block) × (room' ≡ room))
unfolding heard_through
step-side settings table block s room side answer block' room' o ob w n r f =
    let none : ltb side 2 ≡ false = by_cases (ltb side 2) (λ e. absurd (n (up_to side 1 (ltb-true side 2 e), tt))) (λ e. e) in
    let d : drawn settings table block ≡ r = err-one (sym (first-drawn settings table block) ∙ f) in
    let a : answer ≡ number r = refused-answer w (drawn settings table block) (heard-none none (lent_right settings block)) ∙ ap number d in
    let some : number_in answer ≡ 0 → ⊥ = λ z. number-some r (sym (ap number_in a ∙ number-alone r) ∙ z) in
    (a, step-refused-stays settings (coupler_set settings side table) block s room answer block' room' o w ob some)
  where
    heard-none : ltb side 2 ≡ false → (right : Bool) → cond right (heard (coupler_set settings side table) s (length room)) (nothing OutOfRange) ≡ nothing (cond right (unsided settings table) OutOfRange)
    heard-none e true = unsided-heard settings table s (length room) side e
    heard-none e false = refl
