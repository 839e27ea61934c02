-- A reader's number is its fields one above the other, and none overflows: so each helper reads back what was put in. The definition cuts
-- priority, count and the payload's length off (`% 4`, `% 8`, `% 256`); of what is accepted nothing is lost.
use Rattle.std.specs.Prelude.{Result, Ok, Err}
use Prim.Native.Nat.{ℕ, ◌^◌, ◌≤◌, ◌<◌}
use mathlib.Core.Bool.{Bool, true, false, cond, ◌||◌}
use mathlib.Core.List.{List, [], ◌∷◌}
use mathlib.Core.Path.{◌∙◌, ◌≡◌, refl, sym, ap}
use native.Mathlib.Omega.{arith}
use lib.Dec.{eqb}
use lib.ListN.{length, drop, get_or}
use borrow.Author.Tests.{eqb-true}
use Rattle.frame.proofs.Apart.{err-ok, err-one}
use Rattle.cemi.proofs.LayoutLaws.{message-ranges}
use Rattle.cemi.specs.Answers.{cemi_numbered}
use Rattle.cemi.specs.Codes.{is_read}
use Rattle.cemi.specs.Valid.{ValidMessage}
use Rattle.cemi.specs.declared.Codes.{Codes}
use Rattle.cemi.specs.declared.Codes.TheVariants.{All, IndicationOnly}
use Rattle.cemi.specs.declared.Message.{Message}
use Rattle.frame.proofs.Numbers.{number-listed, number-some, refused-number}
use Rattle.frame.proofs.Valid.{Ranges, ranges-of, most-payload}
use Rattle.frame.specs.Answers.{meaning_values}
use Rattle.frame.specs.Valid.{Valid}
use Rattle.frame.specs.declared.Meaning.{Meaning}
use Rattle.frame.specs.declared.Refusal.{Refusal}
use Rattle.klumdray.proofs.Bits.{bit-fits, weighs, Field, ◌holding◌, packed, Fit, width_at, value_at, bit_at, read_back, below}
use Rattle.klumdray.proofs.Surface.{code-most}
use Rattle.klumdray.proofs.Telling.{number-alone, tells-refused, tells-accepted}
use Rattle.klumdray.specs.Decoding.{bits, number_in, meaning_values_in, payload_length_in, code_number_in, message_code_in, error_mark_in, tp1_from, cemi_from, TellsReading}
use Rattle.klumdray.specs.Numbers.{flags_of, meaning_number, tp1_number, code_number, message_number, cemi_number, tp1_answered, cemi_answered, routing_answered}
use Rattle.octets.proofs.Octets.{octets-drop}
use Rattle.octets.proofs.Truth.{by_cases, never}
use Rattle.octets.specs.Octets.{Octets, weigh}
use Rattle.routing.proofs.RoundTrip.{read-datagram}
use Rattle.routing.specs.Reading.{read_routing, routed_payload}
use Rattle.tp1.specs.Answers.{tp1_numbered}
use Rattle.tp1.specs.Reading.{read_tp1, payload_in}
use Rattle.cemi.proofs.RoundTrip.{read-laid as cemi-laid}
use Rattle.cemi.specs.Reading.{read_cemi, payload_in as cemi_payload}
use Rattle.tp1.proofs.RoundTrip.{read-laid as tp1-laid}

reader_fields : Meaning → ℕ → List Field → List Field
reader_fields m k rest =
    8 holding 0
    ∷ 1 holding weigh m.extended 1
    ∷ 1 holding weigh m.first 1
    ∷ 2 holding m.priority
    ∷ 1 holding weigh m.group 1
    ∷ 3 holding m.count
    ∷ 16 holding m.source
    ∷ 16 holding m.destination
    ∷ 8 holding k
    ∷ rest

-- what the helpers find in a number that is a meaning's and a payload length's
record Reads (m : Meaning) (k n : ℕ) : Type 0 where
  number : number_in n ≡ 0
  values : meaning_values_in n ≡ meaning_values m
  payload : payload_length_in n ≡ k

module _ (m : Meaning) (p : List ℕ) (v : Valid m p) where
  ranges : Ranges m (length p)
  ranges = ranges-of m (length p) v.ranges

  most : length p ≤ 255
  most = most-payload m (length p) v.ranges

  fields_fit : (rest : List Field) → Fit rest → Fit (reader_fields m (length p) rest)
  unfolding reader_fields
  fields_fit rest f =
      (omega arith, (bit-fits m.extended, (bit-fits m.first, (ranges.priority, (bit-fits m.group, (ranges.count, (v.source, (v.destination, (omega (arith, most), f)))))))))

  -- whatever lies above the payload's length
  reads : (rest : List Field) (n : ℕ) → Fit rest → n ≡ packed (reader_fields m (length p) rest) → Reads m (length p) n
  unfolding reader_fields
  reads rest n f e =
      let fs : List Field = reader_fields m (length p) rest in
      let field : (i : ℕ) → i < 9 → bits (bit_at fs i) (width_at fs i) n ≡ value_at fs i = λ i l. read_back fs n (fields_fit rest f) e i (omega arith) in
      record {
        number = field 0 (omega arith);
        values = λ j. field 1 (omega arith) j ∷ field 2 (omega arith) j ∷ field 3 (omega arith) j ∷ field 6 (omega arith) j ∷ field 4 (omega arith) j ∷ field 7 (omega arith) j ∷ field 5 (omega arith) j ∷ [];
        payload = field 8 (omega arith);
      }

  meaning-packed : meaning_number m (length p) ≡ packed (reader_fields m (length p) [])
  unfolding meaning_number flags_of reader_fields
  meaning-packed = omega (arith, ranges.priority, ranges.count, most, weighs m.first 2, weighs m.group 16)

  meaning-fits : meaning_number m (length p) < 2 ^ 56
  unfolding reader_fields
  meaning-fits = below (reader_fields m (length p) []) (meaning_number m (length p)) (fields_fit [] tt) meaning-packed

  meaning-reads : Reads m (length p) (meaning_number m (length p))
  meaning-reads = reads [] (meaning_number m (length p)) tt meaning-packed

tp1-answer : (a : Result Meaning Refusal) (p : List ℕ) → ((m : Meaning) → a ≡ Ok m → Valid m p) → ((r : Refusal) → a ≡ Err r → p ≡ [])
    → TellsReading 56 tp1_from (tp1_number a (length p)) (tp1_numbered a) (λ r. a ≡ Err r) p
tp1-answer (Ok m) p v none =
    let x = meaning-reads m p (v m refl) in
    record {
      told = tells-accepted x.number (λ r e. err-ok (sym e)) (meaning-fits m p (v m refl)) (rw (x.number, x.values));
      size = x.payload;
      some = λ z. rw x.payload (ranges m p (v m refl)).some;
    }
tp1-answer (Err q) p v none = record {
  told = tells-refused q refl refl (λ r. err-one) (omega arith) (rw (number-alone q, refused-number q));
  size = rw (none q refl) (omega (arith, (number-listed q).1));
  some = λ z. absurd (number-some q (sym (number-alone q) ∙ z));
}

module _ (s : List ℕ) (o : Octets s) where
  pub tp1-tells : TellsReading 56 tp1_from (tp1_answered s) (tp1_numbered (read_tp1 s)) (λ r. read_tp1 s ≡ Err r) (payload_in (read_tp1 s) s)
  tp1-tells = tp1-answer (read_tp1 s) (payload_in (read_tp1 s) s) (λ m e. rw e (tp1-laid s m o e).valid) (λ r e. rw e)

-- for cEMI also message code and error mark

code-back : (codes : Codes) (c : ℕ) → is_read codes c ≡ true → get_or (0x00 ∷ 0x11 ∷ 0x2E ∷ 0x29 ∷ []) (code_number c) 0 ≡ c
unfolding code_number
code-back All c e = go (eqb c 0x11) (eqb c 0x2E) (eqb c 0x29) refl refl refl e
  where
    go : (i j k : Bool) → eqb c 0x11 ≡ i → eqb c 0x2E ≡ j → eqb c 0x29 ≡ k → i || j || k ≡ true → get_or (0x00 ∷ 0x11 ∷ 0x2E ∷ 0x29 ∷ []) (cond i 1 (cond j 2 (cond k 3 0))) 0 ≡ c
    go true j k a b d t = sym (eqb-true c 0x11 a)
    go false true k a b d t = sym (eqb-true c 0x2E b)
    go false false true a b d t = sym (eqb-true c 0x29 d)
    go false false false a b d t = let z : ◌≡◌ {A = ℕ} 0 1 = cc in absurd (omega arith)
code-back IndicationOnly c e = rw (eqb-true c 0x29 e)

unread-none : (codes : Codes) → is_read codes 0 ≡ false
unread-none All = refl
unread-none IndicationOnly = refl

code-number-some : (codes : Codes) (c : ℕ) → is_read codes c ≡ true → eqb (code_number c) 0 ≡ false
code-number-some codes c e =
    by_cases (eqb (code_number c) 0)
    (λ z.
    let none : c ≡ 0 = sym (code-back codes c e) ∙ ap (λ (i : ℕ). get_or (0x00 ∷ 0x11 ∷ 0x2E ∷ 0x29 ∷ []) i 0) (eqb-true (code_number c) 0 z) in
    never (sym e ∙ ap (is_read codes) none ∙ unread-none codes))
    (λ z. z)

module _ (codes : Codes) (x : Message) (p : List ℕ) (v : ValidMessage codes x p) where
  rest : List Field
  rest = 2 holding code_number x.code ∷ 1 holding weigh x.error 1 ∷ []

  rest-fits : Fit rest
  unfolding rest
  rest-fits = (omega (arith, code-most x.code), (bit-fits x.error, tt))

  fields : List Field
  fields = reader_fields x.meaning (length p) rest

  fit : Fit fields
  unfolding fields
  fit = fields_fit x.meaning p v.valid rest rest-fits

  message-packed : message_number x (length p) ≡ packed fields
  unfolding message_number fields rest reader_fields
  message-packed = rw (meaning-packed x.meaning p v.valid) (omega (arith, weighs x.error 4))

  message-fits : message_number x (length p) < 2 ^ 59
  unfolding fields rest reader_fields
  message-fits = below fields (message_number x (length p)) fit message-packed

  message-reads : Reads x.meaning (length p) (message_number x (length p))
  unfolding fields
  message-reads = reads x.meaning p v.valid rest (message_number x (length p)) rest-fits message-packed

  code-numbered : code_number_in (message_number x (length p)) ≡ code_number x.code
  unfolding fields rest reader_fields
  code-numbered = read_back fields (message_number x (length p)) fit message-packed 9 (omega arith)

  code_read : message_code_in (message_number x (length p)) ≡ x.code
  code_read = rw code-numbered (code-back codes x.code (message-ranges codes x (length p) v.ranges).code)

  -- a message is never told as none
  pub code-some : eqb (code_number_in (message_number x (length p))) 0 ≡ false
  code-some = rw code-numbered (code-number-some codes x.code (message-ranges codes x (length p) v.ranges).code)

  mark-read : error_mark_in (message_number x (length p)) ≡ weigh x.error 1
  unfolding fields rest reader_fields
  mark-read = read_back fields (message_number x (length p)) fit message-packed 10 (omega arith)

pub cemi-answer : (codes : Codes) (a : Result Message Refusal) (p : List ℕ) → ((x : Message) → a ≡ Ok x → ValidMessage codes x p) → ((r : Refusal) → a ≡ Err r → p ≡ [])
    → TellsReading 59 cemi_from (cemi_number a (length p)) (cemi_numbered a) (λ r. a ≡ Err r) p
cemi-answer codes (Ok x) p v none =
    let ok = v x refl in
    let w = message-reads codes x p ok in
    record {
      told = tells-accepted w.number (λ r e. err-ok (sym e)) (message-fits codes x p ok) (rw (w.number, code_read codes x p ok, mark-read codes x p ok, w.values));
      size = w.payload;
      some = λ z. rw w.payload (ranges x.meaning p ok.valid).some;
    }
cemi-answer codes (Err q) p v none = record {
  told = tells-refused q refl refl (λ r. err-one) (omega arith) (rw (number-alone q, refused-number q));
  size = rw (none q refl) (omega (arith, (number-listed q).1));
  some = λ z. absurd (number-some q (sym (number-alone q) ∙ z));
}

module _ (s : List ℕ) (o : Octets s) where
  pub cemi-tells : TellsReading 59 cemi_from (cemi_answered s) (cemi_numbered (read_cemi All s)) (λ r. read_cemi All s ≡ Err r) (cemi_payload (read_cemi All s) s)
  cemi-tells = cemi-answer All (read_cemi All s) (cemi_payload (read_cemi All s) s) (λ x e. rw e (cemi-laid All s x o e).valid) (λ r e. rw e)

  pub routing-tells : TellsReading 59 cemi_from (routing_answered s) (cemi_numbered (read_routing s)) (λ r. read_routing s ≡ Err r) (routed_payload (read_routing s) s)
  routing-tells =
      cemi-answer IndicationOnly (read_routing s) (routed_payload (read_routing s) s) (λ x e. rw e (cemi-laid IndicationOnly (drop 6 s) x (octets-drop 6 s o) (read-datagram s x o e).1).valid) (λ r e. rw e)
