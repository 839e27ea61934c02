-- What the explanation says: a line is reached exactly if it is listed; otherwise every coupler before the one named is fitted and lets the
-- telegram pass, the count lasts for them, and that one does not hand it on, for the reason given. A path has one such coupler. The walk
-- carries the count, the list the couplers crossed.
use Rattle.std.specs.Prelude.{Result, Ok, Err, Some, None}
use Prim.Native.Nat.{ℕ, suc, ◌+◌, ◌≤◌, ◌<◌}
use mathlib.Core.Bool.{Bool, true, false, not, ◌&&◌}
use mathlib.Core.List.{List, [], ◌∷◌, ◌++◌}
use mathlib.Core.Logic.{◌↔◌, inl, inr, ⊎_elim}
use mathlib.Core.Path.{◌≡◌, refl, sym, ap, ◌∙◌}
use native.Mathlib.Omega.{arith}
use lib.Dec.{ltb, eqb}
use lib.ListN.{length, length-append, get_or, drop}
use borrow.Author.Tests.{lt-ltb}
use Rattle.octets.proofs.Truth.{by_cases, never, and-true}
use Rattle.passing.specs.Passing.{does_pass}
use Rattle.passing.specs.declared.Passage.{Passage}
use Rattle.site.proofs.LettingLaws.{passage-lets}
use Rattle.site.specs.Letting.{passage_at}
use Rattle.site.specs.Records.{records_of}
use Rattle.site.specs.Stores.{Stores}
use Rattle.tracer.proofs.CountLaws.{lasts-none, left-lasts, arrival-none, hopped-more}
use Rattle.tracer.proofs.Paths.{distance-four}
use Rattle.tracer.proofs.ReachingLaws.{along-zero, reach-reached}
use Rattle.tracer.proofs.RoomList.{lasts-iff}
use Rattle.tracer.specs.Lines.{Crossing, path, distance}
use Rattle.tracer.specs.Query.{on_arrival}
use Rattle.tracer.specs.Listing.{crossing_passes, all_pass, lasts, is_listed}
use Rattle.tracer.specs.declared.Query.{Query}
use Rattle.tracer.specs.Reaching.{handed, along, reach}
use Rattle.tracer.specs.Why.{walked, why_by, why_of}
use Rattle.tracer.specs.declared.Stop.{Stop}

abbrev pub is_going : Result ℕ Stop → Bool
is_going (Ok count) = true
is_going (Err stop) = false

path-four : (s t : ℕ) → 0 + length (path s t) ≤ 4
unfolding distance
path-four s t = omega (arith, distance-four s t)

lasts-fewer : (c d n : ℕ) → d ≤ n → lasts c n ≡ true → lasts c d ≡ true
lasts-fewer c d n h e = (lasts-iff c d).1 (⊎_elim (λ s. inl s) (λ l. inr (omega (arith, l))) ((lasts-iff c n).0 e))

stopped-stays : (st : Stores) (site : List ℕ) (q : Query) (stop : Stop) (xs : List Crossing)
    → walked st site q (Err stop) xs ≡ Err stop
stopped-stays st site q stop [] = refl
stopped-stays st site q stop (x ∷ xs) = stopped-stays st site q stop xs

first-same : {A : Type 0} {x y : A} {xs ys : List A} → x ∷ xs ≡ y ∷ ys → x ≡ y
first-same {x = x} e = ap (λ l. get_or l 0 x) e

rest-same : {A : Type 0} {x y : A} {xs ys : List A} → x ∷ xs ≡ y ∷ ys → xs ≡ ys
rest-same e = ap (λ l. drop 1 l) e

module _ (st : Stores) (site : List ℕ) (q : Query) where
  abbrev walk : Result ℕ Stop → List Crossing → Result ℕ Stop
  walk w xs = walked st site q w xs

  abbrev passage : Crossing → ℕ → Passage
  passage x count = passage_at st q.kind q.destination (records_of site) x.direction x.line count

  -- after d couplers, with the count that is left, on a path of at most four
  going : (m : q.count ≤ 7) (d : ℕ) (xs : List Crossing) → d + length xs ≤ 4 → lasts q.count d ≡ true
      → is_going (walk (Ok (on_arrival q d)) xs) ≡ ltb 0 (along (crossing_passes st site q) q.count (suc d) xs)
  unfolding handed
  going m d [] few e = sym (lt-ltb 0 (suc d) (omega arith))
  going m d (x ∷ xs) few e =
      let p = passage x (on_arrival q d) in
      let f = crossing_passes st site q x in
      let k : does_pass p ≡ f && lasts q.count (suc d) =
      passage-lets st q.kind q.destination (records_of site) x.direction x.line (on_arrival q d)
      ∙ ap (λ (b : Bool). f && b) (left-lasts q d (omega arith) e) in
      by_cases (f && lasts q.count (suc d))
      (λ t.
      let l : lasts q.count (suc d) ≡ true = (and-true f (lasts q.count (suc d)) t).1 in
      rw (k, lt-ltb 0 (suc d) (omega arith), t, hopped-more q d m) (going m (suc d) xs (omega arith) l))
      (λ n.
      rw (k, lt-ltb 0 (suc d) (omega arith), n)
      (ap is_going (stopped-stays st site q (record { coupler = x.line; direction = x.direction; reason = p }) xs)
      ∙ sym (ap (λ (l : ℕ). ltb 0 l) (along-zero (crossing_passes st site q) q.count xs))))

  going-listed : (m : q.count ≤ 7) (line : ℕ) → is_going (walk (Ok q.count) (path q.start line)) ≡ is_listed (crossing_passes st site q) q.start q.count line
  unfolding reach
  going-listed m line =
      ap (λ (c : ℕ). is_going (walk (Ok c) (path q.start line))) (sym (arrival-none q))
      ∙ going m 0 (path q.start line) (path-four q.start line) (lasts-none q.count)
      ∙ reach-reached (crossing_passes st site q) q.start q.count line

  reached-going : (w : Result ℕ Stop) → why_by w ≡ Ok None → is_going w ≡ true
  reached-going (Ok count) e = refl
  reached-going (Err stop) e = let z : ◌≡◌ {A = ℕ} 0 1 = cc in absurd (omega arith)

  going-reached : (w : Result ℕ Stop) → is_going w ≡ true → why_by w ≡ Ok None
  going-reached (Ok count) e = refl
  going-reached (Err stop) e = let z : ◌≡◌ {A = ℕ} 0 1 = cc in absurd (omega arith)

  -- "'reached' exactly for the listed lines"
  pub reached-iff : q.count ≤ 7 → (line : ℕ) → why_of st site q line ≡ Ok None ↔ (is_listed (crossing_passes st site q) q.start q.count line ≡ true)
  unfolding why_of
  reached-iff m line =
      let w = walk (Ok q.count) (path q.start line) in
      ((λ e. sym (going-listed m line) ∙ reached-going w e), (λ e. going-reached w (going-listed m line ∙ e)))

  -- the telegram comes to this coupler, d having been crossed before those ahead: they let it pass, and the count lasts for them; this one does
  -- not hand it on
  abbrev pub StopsBehind : ℕ → List Crossing → Crossing → Type 0
  StopsBehind d ahead here =
      (all_pass (crossing_passes st site q) ahead ≡ true)
      × ((lasts q.count (d + length ahead) ≡ true) × (does_pass (passage here (on_arrival q (d + length ahead))) ≡ false))

  -- what is told of it: the reason that it has with the count on arrival there
  abbrev pub stop_of : Crossing → ℕ → Stop
  stop_of x d = record { coupler = x.line; direction = x.direction; reason = passage x (on_arrival q d) }

  pub record StoppedAt (crossed : ℕ) (xs : List Crossing) (stop : Stop) : Type 0 where
    pub ahead : List Crossing
    pub here : Crossing
    pub behind : List Crossing
    pub place : xs ≡ ahead ++ (here ∷ behind)
    pub stops : StopsBehind crossed ahead here
    pub told : stop ≡ stop_of here (crossed + length ahead)

  stopped-at : (m : q.count ≤ 7) (d : ℕ) (xs : List Crossing) (stop : Stop) → d + length xs ≤ 4 → lasts q.count d ≡ true → walk (Ok (on_arrival q d)) xs ≡ Err stop → StoppedAt d xs stop
  stopped-at m d [] stop few h e = let z : ◌≡◌ {A = ℕ} 0 1 = cc in absurd (omega arith)
  stopped-at m d (x ∷ xs) stop few h e =
      let k = on_arrival q d in
      by_cases (does_pass (passage x k))
      (λ t.
      let a = and-true (crossing_passes st site q x) (not (eqb k 0)) (sym (passage-lets st q.kind q.destination (records_of site) x.direction x.line k) ∙ t) in
      let l : lasts q.count (suc d) ≡ true = sym (left-lasts q d (omega arith) h) ∙ a.1 in
      let s = stopped-at m (suc d) xs stop (omega arith) l (ap (λ (c : ℕ). walk (Ok c) xs) (sym (hopped-more q d m)) ∙ (rw t at e)) in
      let j : suc d + length s.ahead ≡ d + suc (length s.ahead) = omega arith in
      record {
        ahead = x ∷ s.ahead;
        here = s.here;
        behind = s.behind;
        place = ap (λ (l : List Crossing). x ∷ l) s.place;
        stops = (ap (λ (b : Bool). b && all_pass (crossing_passes st site q) s.ahead) a.0 ∙ s.stops.0, (rw (← j) s.stops.1.0, rw (← j) s.stops.1.1));
        told = s.told ∙ ap (stop_of s.here) j;
      })
      (λ n.
      let f : Err (stop_of x d) ≡ Err stop = sym (stopped-stays st site q (stop_of x d) xs) ∙ (rw n at e) in
      let g : stop ≡ stop_of x d = cc in
      let j : d ≡ d + 0 = omega arith in
      record {
        ahead = [];
        here = x;
        behind = xs;
        place = refl;
        stops = (refl, (rw (← j) h, rw (← j) n));
        told = g ∙ ap (stop_of x) j;
      })

  stop-of : (w : Result ℕ Stop) → is_going w ≡ false → (stop : Stop) × (w ≡ Err stop)
  stop-of (Ok count) e = never e
  stop-of (Err stop) e = (stop, refl)

  -- "all couplers before the one it names are fitted and pass, and that one does not, for the reason given"
  pub not-reached : q.count ≤ 7 → (line : ℕ) → is_listed (crossing_passes st site q) q.start q.count line ≡ false → (stop : Stop) × ((why_of st site q line ≡ Ok (Some stop)) × StoppedAt 0 (path q.start line) stop)
  unfolding why_of
  not-reached m line e =
      let w = stop-of (walk (Ok q.count) (path q.start line)) (going-listed m line ∙ e) in
      (w.0, (ap why_by w.1, stopped-at m 0 (path q.start line) w.0 (path-four q.start line) (lasts-none q.count) (ap (λ (c : ℕ). walk (Ok c) (path q.start line)) (arrival-none q) ∙ w.1)))

  -- a coupler that lets the telegram pass hands it on if the count lasts for one more
  hands_on : (x : Crossing) (d n : ℕ) → crossing_passes st site q x ≡ true → d < n → n ≤ 4 → lasts q.count n ≡ true → does_pass (passage x (on_arrival q d)) ≡ true
  hands_on x d n f h few e =
      let more : lasts q.count (suc d) ≡ true = lasts-fewer q.count (suc d) n h e in
      passage-lets st q.kind q.destination (records_of site) x.direction x.line (on_arrival q d)
      ∙ rw (f, left-lasts q d (omega (arith, h)) (lasts-fewer q.count d n (omega (arith, h)) e)) more

  stops-behind : (d : ℕ) (x y : Crossing) (xs : List Crossing) → StopsBehind d (x ∷ xs) y → (crossing_passes st site q x ≡ true) × StopsBehind (suc d) xs y
  stops-behind d x y xs s =
      let p = and-true (crossing_passes st site q x) (all_pass (crossing_passes st site q) xs) s.0 in
      let j : d + suc (length xs) ≡ suc d + length xs = omega arith in
      (p.0, (p.1, (rw j at s.1.0, rw j at s.1.1)))

  none-behind : (d : ℕ) (x y : Crossing) (xs : List Crossing) → d + suc (length xs) ≤ 4 → StopsBehind d [] x → StopsBehind d (x ∷ xs) y → ⊥
  none-behind d x y xs few s s' = never (sym (hands_on x (d + 0) (d + suc (length xs)) (stops-behind d x y xs s').0 (omega arith) few s'.1.0) ∙ s.1.1)

  -- such a coupler is one on a path of at most four
  pub stops-once : (d : ℕ) (xs us ys vs : List Crossing) (x y : Crossing) → d + length (xs ++ (x ∷ us)) ≤ 4 → xs ++ (x ∷ us) ≡ ys ++ (y ∷ vs) → StopsBehind d xs x → StopsBehind d ys y → (x ≡ y) × (length xs ≡ length ys)
  stops-once d [] us [] vs x y few e s s' = (first-same e, refl)
  stops-once d [] us (z ∷ ys) vs x y few e s s' = absurd (none-behind d x y ys (omega (arith, few, ap length e, length-append ys (y ∷ vs))) s (rw (← first-same e) at s'))
  stops-once d (z ∷ xs) us [] vs x y few e s s' = absurd (none-behind d y x xs (omega (arith, few, length-append xs (x ∷ us))) s' (rw (first-same e) at s))
  stops-once d (w ∷ xs) us (z ∷ ys) vs x y few e s s' =
      let r = stops-once (suc d) xs us ys vs x y (omega (arith, few)) (rest-same e) (stops-behind d w x xs s).1 (stops-behind d z y ys s').1 in
      (r.0, ap suc r.1)
