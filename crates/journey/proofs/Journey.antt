-- The list is what the couplers do. From arrival to list: the octets that arrive are the first sending with its count by the distance, over
-- the couplers of the path, so that another coupler than the last makes the path longer. From list to arrival: along the path, by the
-- distance.
use Rattle.std.specs.Prelude.{Ok}
use Prim.Native.Nat.{ℕ, zero, suc, ◌<◌}
use mathlib.Core.Bool.{Bool, true, false, not, ◌&&◌}
use mathlib.Core.List.{List, [], ◌∷◌, ◌++◌}
use mathlib.Core.Logic.{◌↔◌}
use mathlib.Core.Path.{◌≡◌, refl, sym, ap, ◌∙◌, subst}
use native.Mathlib.Omega.{arith}
use lib.Dec.{eqb}
use lib.ListN.{length}
use borrow.Author.Tests.{eqb-false, not-true, ne_eqb}
use Rattle.coupler.specs.Step.{read_by, kind_of, forwarded_meaning, frame}
use Rattle.coupler.specs.declared.Setting.{Setting}
use Rattle.frame.proofs.Valid.{ranges-of, ranged}
use Rattle.frame.specs.Order.{first_of}
use Rattle.frame.specs.Valid.{Valid}
use Rattle.frame.specs.declared.Meaning.{Meaning}
use Rattle.journey.proofs.Fitted.{fitted_line, fitted-below}
use Rattle.journey.proofs.Handing.{form-on-read, is_set, hands-line, hands-side, hands-passes, passes-hands}
use Rattle.journey.proofs.SoMany.{Counted, so-many}
use Rattle.journey.specs.Journey.{AtWork, own_coupler, is_ip, form_on, coupler_at, Hands, Arrives, Sends, SoMany, ArrivesWith, asked_of, with_count, put-there, handed-on}
use Rattle.octets.proofs.Truth.{by_cases, and-true}
use Rattle.octets.specs.Octets.{Octets}
use Rattle.site.specs.Letting.{record_passes, line_lets_pass}
use Rattle.site.specs.Records.{is_fitted}
use Rattle.site.specs.WellFormed.{site_tests}
use Rattle.tracer.proofs.CountLaws.{arrival-none, arrival-below, hopped-more}
use Rattle.tracer.proofs.Crossings.{goes_on, last_of, distance-more, listed_more, forwarding-is}
use Rattle.tracer.proofs.ListLaws.{start-listed}
use Rattle.tracer.proofs.Paths.{main-below, path-same, distance-same, distance-zero}
use Rattle.tracer.proofs.Standing.{ListedWith}
use Rattle.tracer.specs.Lines.{main_side, Crossing, from_line, to_line, came_over, path, distance}
use Rattle.tracer.specs.Query.{on_arrival, hopped_in}
use Rattle.tracer.specs.declared.Query.{Query}
use Rattle.tracer.specs.Listing.{crossing_passes, is_listed, is_forwarding, forwardings}

-- the one place where a coupler's hop rule meets that of the list: each coupler of a site at work forwards a first sending with the count by
-- which the query about it goes on
forwarded-with : (w : AtWork) (x : Crossing) (start : ℕ) (m : Meaning) (count : ℕ) → m.first ≡ true
    → forwarded_meaning (coupler_at w x).setting (with_count count m) ≡ with_count (hopped_in (asked_of w start m) count) m
forwarded-with w x start m count e =
    let f : true ≡ m.first = sym e in
    let n : ℕ = hopped_in (asked_of w start m) count in
    λ i. record { extended = m.extended; first = f i; priority = m.priority; source = m.source; group = m.group; destination = m.destination; count = n }

module _ (w : AtWork) (ok : first_of (site_tests w.stores w.site) ≡ Ok tt) (start : ℕ) (m : Meaning) (p : List ℕ) (v : Valid m p) (new : m.first ≡ true) where
  abbrev asked : Query
  asked = asked_of w start m

  -- the count of the first sending after the couplers of the path to a line, itself as it is then, and its form there

  abbrev count_on : ℕ → ℕ
  count_on t = on_arrival asked (distance start t)

  abbrev on_line : ℕ → Meaning
  on_line t = with_count (count_on t) m

  abbrev form_there : ℕ → List ℕ
  form_there t = form_on w t (on_line t) p

  abbrev passes : Crossing → Bool
  passes = crossing_passes w.stores w.site asked

  abbrev lists : ℕ → Bool
  lists = is_listed passes start m.count

  abbrev Lists : ℕ → Type 0
  Lists t = lists t ≡ true

  abbrev FirstArrives : ℕ → List ℕ → List Crossing → Type 0
  FirstArrives = Arrives w start (form_on w start m p)

  abbrev FirstSends : Crossing → Type 0
  FirstSends = Sends w start (form_on w start m p)

  counted : m.count < 8
  counted = (ranges-of m (length p) v.ranges).count

  valid-on : (t : ℕ) → Valid (on_line t) p
  valid-on t =
      let r = ranges-of m (length p) v.ranges in
      record {
        ranges = ranged (on_line t) (length p) (record { priority = r.priority; count = arrival-below asked (distance start t) r.count; some = r.some; most = r.most });
        source = v.source;
        destination = v.destination;
        octets = v.octets;
      }

  form-start : form_there start ≡ form_on w start m p
  form-start = ap (λ (k : ℕ). form_on w start (with_count k m) p) (ap (on_arrival asked) (distance-same start) ∙ arrival-none asked)

  module _ (x : Crossing) (e : path start (to_line x) ≡ path start (from_line x) ++ (x ∷ [])) where
    abbrev before : ℕ
    before = from_line x

    abbrev setting : Setting
    setting = (coupler_at w x).setting

    onward-is : form_on w (to_line x) (forwarded_meaning setting (on_line before)) p ≡ form_there (to_line x)
    onward-is =
        let hops : hopped_in asked (count_on before) ≡ count_on (to_line x) =
        hopped-more asked (distance start before) (omega (arith, counted)) ∙ ap (on_arrival asked) (sym (distance-more start (to_line x) before x e)) in
        ap (λ (y : Meaning). form_on w (to_line x) y p) (forwarded-with w x start m (count_on before) new ∙ ap (λ (k : ℕ). with_count k m) hops)

    more : lists (to_line x) ≡ lists before && passes x && not (eqb (count_on before) 0)
    more = listed_more passes asked (to_line x) before x e

    step-lists : (onward : List ℕ) → Lists before → Hands w x (form_there before) onward → Lists (to_line x) × (onward ≡ form_there (to_line x))
    step-lists onward l h =
        let y = hands-passes w ok x (on_line before) p (valid-on before) onward h in
        (more ∙ rw (l, y.0, ne_eqb (count_on before) 0 y.1.0) refl, y.1.1 ∙ onward-is)

    lists-step : x.direction < 2 → Lists (to_line x) → Lists before × Hands w x (form_there before) (form_there (to_line x))
    lists-step side l =
        let none : Bool = eqb (count_on before) 0 in
        let a = and-true (lists before && passes x) (not none) (sym more ∙ l) in
        let b = and-true (lists before) (passes x) a.0 in
        let h = passes-hands w ok x (on_line before) p (valid-on before) new side b.1 (eqb-false (count_on before) 0 (not-true none a.1)) in
        (b.0, subst (Hands w x (form_there before)) onward-is h)

  -- what is known of octets that arrive
  record Arrived (t : ℕ) (octets : List ℕ) (way : List Crossing) : Type 0 where
    lists : Lists t
    are : octets ≡ form_there t
    along : way ≡ path start t

  longer : {octets onward : List ℕ} {way : List Crossing} (x : Crossing) → way ≡ path start (from_line x) → came_over way x.line ≡ false → Hands w x octets onward
      → path start (to_line x) ≡ path start (from_line x) ++ (x ∷ [])
  longer x e d h = goes_on start x.direction x.line (hands-side w ok x h) (hands-line w ok x h) (ap (λ (y : List Crossing). came_over y x.line) (sym e) ∙ d)

  arrived : {t : ℕ} {octets : List ℕ} {way : List Crossing} → FirstArrives t octets way → Arrived t octets way
  arrived put-there = record { lists = start-listed passes asked; are = sym form-start; along = sym (path-same start) }
  arrived (handed-on {octets = o} {onward = o'} {way = y} x a d h) =
      let b = arrived a in
      let e = longer x b.along d h in
      let z = step-lists x e o' b.lists (subst (λ (l : List ℕ). Hands w x l o') b.are h) in
      record { lists = z.0; are = z.1; along = ap (λ (l : List Crossing). l ++ (x ∷ [])) b.along ∙ sym e }

  abbrev Comes : ℕ → Type 0
  Comes t = FirstArrives t (form_there t) (path start t)

  comes-by : (d t : ℕ) → distance start t ≡ d → Lists t → Comes t
  comes-by zero t e l =
      subst Comes (distance-zero start t e)
      (subst (λ (o : List ℕ). FirstArrives start o (path start start)) (sym form-start) (subst (FirstArrives start (form_on w start m p)) (sym (path-same start)) put-there))
  comes-by (suc d) t e l =
      let a = last_of start t (λ z. omega (arith, ap (distance start) (sym z), distance-same start)) in
      let x : Crossing = a.last in
      let g : path start (to_line x) ≡ path start (from_line x) ++ (x ∷ []) = ap (path start) a.leads ∙ a.longer in
      let y = lists-step x g a.side (subst Lists (sym a.leads) l) in
      let c = comes-by d (from_line x) (omega (arith, distance-more start t (from_line x) x a.longer)) y.0 in
      subst Comes a.leads
      (subst (FirstArrives (to_line x) (form_there (to_line x))) (sym g) (handed-on x c a.ahead y.1))

  -- a line is listed with a count and so many couplers crossed exactly if the first sending, handed on from line to line by the couplers,
  -- arrives there with them
  pub list-is-journey : (t k d : ℕ) → ListedWith w.stores w.site asked t k d ↔ ArrivesWith w start m p t k d
  unfolding distance
  list-is-journey t k d = (
    (λ l.
        let e : on_line t ≡ with_count k m = ap (λ (i : ℕ). with_count i m) l.counts in
        record {
          octets = form_there t;
          way = path start t;
          arrives = comes-by (distance start t) t refl l.lists;
          laid = ap (λ (x : Meaning). form_on w t x p) e;
          reads = form-on-read w t (on_line t) p (valid-on t) ∙ ap (λ (x : Meaning). frame x p) e;
          crosses = l.crosses;
        }),
    (λ a.
        let b = arrived a.arrives in
        let f : frame (on_line t) p ≡ frame (with_count k m) p = sym (form-on-read w t (on_line t) p (valid-on t)) ∙ ap (read_by (is_ip w t)) (sym b.are) ∙ a.reads in
        let e : on_line t ≡ with_count k m = cc in
        record { lists = b.lists; counts = ap (λ (x : Meaning). x.count) e; crosses = ap length (sym b.along) ∙ a.crosses }),
  )

  -- whatever arrives is the first sending, in the line's form, with nothing changed but the count; and it came along the path
  pub arrives-listed : {t : ℕ} {octets : List ℕ} {way : List Crossing} → FirstArrives t octets way
      → ListedWith w.stores w.site asked t (count_on t) (length way) × ((octets ≡ form_there t) × (way ≡ path start t))
  unfolding distance
  arrives-listed a =
      let b = arrived a in
      (record { lists = b.lists; counts = refl; crosses = ap length (sym b.along) }, (b.are, b.along))

  -- it arrives on none but the 256 lines
  pub arrives-below : Octets w.site → start < 256 → {t : ℕ} {octets : List ℕ} {way : List Crossing} → FirstArrives t octets way → t < 256
  arrives-below o h put-there = h
  arrives-below o h (handed-on x a d y) =
      let n : x.line < 256 = fitted-below w.stores w.site x.line o (is_set w ok x y.fitted) in
      let l : main_side x.line < 256 = omega (arith, main-below x.line (hands-line w ok x y)) in
      by_cases (eqb x.direction 0) (λ e. rw e n) (λ e. rw e l)

  -- a coupler sends exactly if it makes what is counted as a forwarding

  abbrev Forwarding : Crossing → Type 0
  Forwarding x = is_forwarding passes asked x ≡ true

  fitted-at : (x : Crossing) → passes x ≡ true → is_fitted (own_coupler w x.line) ≡ true
  unfolding line_lets_pass
  fitted-at x e =
      let r : List ℕ = own_coupler w x.line in
      (and-true (is_fitted r) (record_passes w.stores (kind_of m) m.destination x.direction r) e).0

  forwarding-fitted : (x : Crossing) → Forwarding x → is_fitted (own_coupler w x.line) ≡ true
  unfolding is_forwarding
  forwarding-fitted x e =
      let ahead : Bool = lists (from_line x) && not (came_over (path start (from_line x)) x.line) in
      let a = and-true (ahead && passes x) (not (eqb (count_on (from_line x)) 0)) e in
      fitted-at x (and-true ahead (passes x) a.0).1

  sends-forwarding : (x : Crossing) → FirstSends x → Forwarding x
  sends-forwarding x s =
      let b = arrived s.arrives in
      let e = longer x b.along s.ahead s.hands in
      let z = step-lists x e s.onward b.lists (subst (λ (l : List ℕ). Hands w x l s.onward) b.are s.hands) in
      let d : came_over (path start (from_line x)) x.line ≡ false = ap (λ (y : List Crossing). came_over y x.line) (sym b.along) ∙ s.ahead in
      forwarding-is passes asked x.direction x.line (hands-side w ok x s.hands) (hands-line w ok x s.hands) ∙ rw (d, z.0) refl

  forwarding-sends : (x : Crossing) → x.direction < 2 → Forwarding x → FirstSends x
  forwarding-sends x side e =
      let n : x.line ≡ 0 → ⊥ = fitted_line w.stores x.line (own_coupler w x.line) (is_set w ok x (forwarding-fitted x e)) in
      let back : Bool = came_over (path start (from_line x)) x.line in
      let a = and-true (not back) (lists (to_line x)) (sym (forwarding-is passes asked x.direction x.line side n) ∙ e) in
      let d : back ≡ false = not-true back a.0 in
      let y = lists-step x (goes_on start x.direction x.line side n d) side a.1 in
      record {
        octets = form_there (from_line x);
        onward = form_there (to_line x);
        way = path start (from_line x);
        arrives = comes-by (distance start (from_line x)) (from_line x) refl y.0;
        ahead = d;
        hands = y.1;
      }

  pub sends-iff : (x : Crossing) → FirstSends x ↔ ((x.direction < 2) × Forwarding x)
  sends-iff x = ((λ s. (hands-side w ok x s.hands, sends-forwarding x s)), λ y. forwarding-sends x y.0 y.1)

  -- and if so, once
  pub sends-once : (x : Crossing) (r s : FirstSends x) → (r.octets ≡ s.octets) × ((r.way ≡ s.way) × (r.onward ≡ s.onward))
  sends-once x r s =
      let a = arrived r.arrives in
      let b = arrived s.arrives in
      (a.are ∙ sym b.are, (a.along ∙ sym b.along, onward r ∙ sym (onward s)))
    where
      onward : (s : FirstSends x) → s.onward ≡ form_there (to_line x)
      onward s = (arrived (handed-on x s.arrives s.ahead s.hands)).are

  -- "the number of forwardings made on the site" is the number of the couplers' sendings
  pub sends-so-many : Octets w.site → SoMany FirstSends (forwardings w.stores w.site asked)
  unfolding forwardings
  sends-so-many o = so-many FirstSends (is_forwarding passes asked) 255 same
    where
      same : (x : Crossing) → FirstSends x ↔ Counted 255 (is_forwarding passes asked) x
      same x = (
        (λ s.
            let l : x.line < 256 = fitted-below w.stores w.site x.line o (is_set w ok x s.hands.fitted) in
            let y = (sends-iff x).0 s in
            record { side = y.0; some = hands-line w ok x s.hands; most = omega arith; holds = y.1 }),
        (λ c. (sends-iff x).1 (c.side, c.holds)),
      )
