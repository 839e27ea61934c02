-- Laws of the tree of lines and of the path between two of them. Every law about main sides goes by `by-mains`: from 00h, and from a
-- line's main side to the line.
use Prim.Native.Nat.{ℕ, zero, suc, ◌+◌, ◌%◌, ◌≤◌, ◌<◌}
use mathlib.Core.Bool.{Bool, true, false, not, ◌||◌}
use mathlib.Core.List.{List, [], ◌∷◌, ◌++◌, append_assoc}
use mathlib.Core.Path.{◌≡◌, refl, sym, ap, ◌∙◌, subst}
use native.Mathlib.Omega.{arith}
use lib.Dec.{eqb}
use lib.ListN.{length, length-append}
use borrow.Author.Tests.{eqb-true, eqb-false, eq-eqb, ne_eqb}
use Rattle.octets.proofs.Truth.{by_cases, never, or_no, or_right, or-false, or_cases}
use Rattle.site.specs.WellFormed.{is_among}
use Rattle.tracer.specs.Lines.{main_side, depth, main_sides, before_common, Crossing, up, down, up_over, down_over, came_over, path, distance}
use Rattle.tracer.specs.Reaching.{climbing}

main-flat : (n : ℕ) → main_side n % 16 ≡ 0
unfolding main_side
main-flat n = by_cases (eqb (n % 16) 0) (λ e. rw e refl) (λ e. rw e (omega arith))

flat-main : (n : ℕ) → n % 16 ≡ 0 → main_side n ≡ 0
unfolding main_side
flat-main n e = rw (eq-eqb _ _ e)

main-main : (n : ℕ) → main_side (main_side n) ≡ 0
main-main n = flat-main (main_side n) (main-flat n)

pub main-below : (n : ℕ) → (n ≡ 0 → ⊥) → main_side n < n
unfolding main_side
main-below n h =
    by_cases (eqb (n % 16) 0)
    (λ e. rw e (omega (arith, h)))
    (λ e. rw e (omega (arith, h, eqb-false (n % 16) 0 e)))

pub depth-zero : (n : ℕ) → depth n ≡ 0 → n ≡ 0
unfolding depth
depth-zero n h =
    by_cases (eqb n 0)
    (λ e. eqb-true n 0 e)
    (λ e. by_cases (eqb (main_side n) 0)
    (λ d. let z : ◌≡◌ {A = ℕ} 1 0 = rw (e, d) at h in omega arith)
    (λ d. let z : ◌≡◌ {A = ℕ} 2 0 = rw (e, d) at h in omega arith))

pub depth-0 : depth 0 ≡ 0
unfolding depth
depth-0 = refl

pub depth-main : (n : ℕ) → (n ≡ 0 → ⊥) → depth n ≡ suc (depth (main_side n))
unfolding depth
depth-main n h =
    by_cases (eqb (main_side n) 0)
    (λ d. simp (ne_eqb _ _ h, d))
    (λ d. simp (ne_eqb _ _ h, d, main-main))

pub depth-two : (n : ℕ) → depth n ≤ 2
unfolding depth
depth-two n =
    by_cases (eqb n 0)
    (λ e. rw e (omega arith))
    (λ e. by_cases (eqb (main_side n) 0)
    (λ d. rw (e, d) (omega arith))
    (λ d. rw (e, d) (omega arith)))

pub mains-zero : main_sides 0 ≡ 0 ∷ []
unfolding main_sides depth
mains-zero = refl

pub mains-cons : (n : ℕ) → (n ≡ 0 → ⊥) → main_sides n ≡ n ∷ main_sides (main_side n)
unfolding main_sides
mains-cons n h = rw (depth-main n h)

-- what holds of 00h, and of a line if it holds of its main side, holds of every line
pub by-mains : (P : ℕ → Type 0) → P 0 → ((n : ℕ) → (n ≡ 0 → ⊥) → P (main_side n) → P n) → (n : ℕ) → P n
by-mains P z s n = go (depth n) n refl
  where
    go : (k n : ℕ) → depth n ≡ k → P n
    go zero n e = subst P (sym (depth-zero n e)) z
    go (suc k) n e =
        by_cases (eqb n 0)
        (λ q. subst P (sym (eqb-true n 0 q)) z)
        (λ q. s n (eqb-false n 0 q) (go k (main_side n) (omega (arith, depth-main n (eqb-false n 0 q)))))

-- what stands on the way to 00h

-- the line itself is the first
pub on-self : (n : ℕ) → is_among n (main_sides n) ≡ true
on-self n =
    by_cases (eqb n 0)
    (λ q. rw (eqb-true n 0 q, mains-zero) refl)
    (λ q. rw (mains-cons n (eqb-false n 0 q)) (rw (eq-eqb n n refl) refl))

-- at most three lines stand on the way: a line, its main side, 00h
three-or : (a b x z : Bool) → x ≡ z → a || b || z ≡ a || (b || (x || false))
three-or true b x z e = refl
three-or false true x z e = refl
three-or false false x z e = sym e ∙ sym (or_no x)

two-or : (a x z : Bool) → x ≡ z → a || x || z ≡ a || (x || false)
two-or true x z e = refl
two-or false true z e = refl
two-or false false z e = sym e

one-or : (x z : Bool) → x ≡ z → x || x || z ≡ x || false
one-or true z e = refl
one-or false z e = sym e

pub three-sides : (t n : ℕ) → eqb n t || eqb (main_side n) t || eqb t 0 ≡ is_among t (main_sides n)
three-sides t n =
    let zero_is : eqb 0 t ≡ eqb t 0 = by_cases (eqb t 0) (λ q. rw (eqb-true t 0 q) refl) (λ q. ne_eqb 0 t (λ z. eqb-false t 0 q (sym z)) ∙ sym q) in
    by_cases (eqb n 0)
    (λ q. rw (eqb-true n 0 q, flat-main 0 refl, mains-zero) (one-or (eqb 0 t) (eqb t 0) zero_is))
    (λ q. by_cases (eqb (main_side n) 0)
    (λ w. rw (mains-cons n (eqb-false n 0 q), eqb-true (main_side n) 0 w, mains-zero) (two-or (eqb n t) (eqb 0 t) (eqb t 0) zero_is))
    (λ w. rw (mains-cons n (eqb-false n 0 q), mains-cons (main_side n) (eqb-false (main_side n) 0 w), main-main n, mains-zero) (three-or (eqb n t) (eqb (main_side n) t) (eqb 0 t) (eqb t 0) zero_is)))

pub on-zero : (n : ℕ) → is_among 0 (main_sides n) ≡ true
on-zero = by-mains (λ n. is_among 0 (main_sides n) ≡ true) (rw mains-zero refl) (λ n h ih. rw (mains-cons n h) (or_right (eqb n 0) _ ih))

-- nothing on it is greater
pub on_below : (m n : ℕ) → is_among m (main_sides n) ≡ true → m ≤ n
on_below m =
    by-mains (λ n. is_among m (main_sides n) ≡ true → m ≤ n)
    (λ e. or_cases (eqb 0 m) false (rw mains-zero at e) (λ q. omega (arith, eqb-true 0 m q)) (λ q. never (sym q)))
    (λ n h ih e. or_cases (eqb n m) (is_among m (main_sides (main_side n))) (rw (mains-cons n h) at e) (λ q. omega (arith, eqb-true n m q)) (λ q. omega (arith, ih q, main-below n h)))

-- a line that is not the first stands on the way from the main side
pub on-next : (m n : ℕ) → (n ≡ m → ⊥) → is_among m (main_sides n) ≡ true → (n ≡ 0 → ⊥) × (is_among m (main_sides (main_side n)) ≡ true)
on-next m n d e =
    let h : n ≡ 0 → ⊥ = λ z. d (omega (arith, on_below m n e)) in
    (h, or_cases (eqb n m) (is_among m (main_sides (main_side n))) (rw (mains-cons n h) at e) (λ q. absurd (d (eqb-true n m q))) (λ q. q))

-- with a line its main side
pub on-main : (m n : ℕ) → is_among m (main_sides n) ≡ true → is_among (main_side m) (main_sides n) ≡ true
on-main m =
    by-mains (λ n. is_among m (main_sides n) ≡ true → is_among (main_side m) (main_sides n) ≡ true)
    (λ e. rw (main-zero (omega (arith, on_below m 0 e))) (on-zero 0))
    (λ n h ih e. rw (mains-cons n h) (or_right (eqb n (main_side m)) _ (or_cases (eqb n m) (is_among m (main_sides (main_side n))) (rw (mains-cons n h) at e) (λ q. rw (eqb-true n m q) (on-self (main_side m))) ih)))
  where
    main-zero : m ≡ 0 → main_side m ≡ 0
    main-zero z = flat-main m (rw z refl)

-- the part before the first line in common

pub before_on : (n : ℕ) (others : List ℕ) → is_among n others ≡ true → before_common (main_sides n) others ≡ []
before_on n others e =
    by_cases (eqb n 0)
    (λ q. let z : is_among 0 others ≡ true = rw (eqb-true n 0 q) at e in rw (eqb-true n 0 q, mains-zero, z) refl)
    (λ q. rw (mains-cons n (eqb-false n 0 q), e) refl)

pub before-off : (n : ℕ) (others : List ℕ) → (n ≡ 0 → ⊥) → is_among n others ≡ false → before_common (main_sides n) others ≡ n ∷ before_common (main_sides (main_side n)) others
before-off n others h e = rw (mains-cons n h, e) refl

-- a line that none of them is may be left out
before-skip : (ns : List ℕ) (t : ℕ) (others : List ℕ) → is_among t ns ≡ false → before_common ns (t ∷ others) ≡ before_common ns others
before-skip [] t others e = refl
before-skip (n ∷ ns) t others e =
    let x = or-false (eqb n t) (is_among t ns) e in
    rw (ne_eqb t n (λ z. eqb-false n t x.0 (sym z)), before-skip ns t others x.1) refl

pub path-same : (s : ℕ) → path s s ≡ []
unfolding path
path-same s = rw (before_on s (main_sides s) (on-self s)) refl

-- up to a line above, no other line of that one's main sides comes first
before-top : (t s : ℕ) → is_among t (main_sides s) ≡ true → before_common (main_sides s) (main_sides t) ≡ before_common (main_sides s) (t ∷ [])
before-top t =
    by-mains (λ s. is_among t (main_sides s) ≡ true → before_common (main_sides s) (main_sides t) ≡ before_common (main_sides s) (t ∷ []))
    (λ e. top 0 (omega (arith, on_below t 0 e)))
    (λ s h ih e. by_cases (eqb s t) (λ q. top s (eqb-true s t q)) (λ q. climb s h ih (eqb-false s t q) e))
  where
    top : (s : ℕ) → s ≡ t → before_common (main_sides s) (main_sides t) ≡ before_common (main_sides s) (t ∷ [])
    top s z = rw (z, before_on t (main_sides t) (on-self t), before_on t (t ∷ []) (rw (eq-eqb t t refl) refl)) refl

    climb : (s : ℕ) → (s ≡ 0 → ⊥) → (is_among t (main_sides (main_side s)) ≡ true → before_common (main_sides (main_side s)) (main_sides t) ≡ before_common (main_sides (main_side s)) (t ∷ []))
        → (s ≡ t → ⊥) → is_among t (main_sides s) ≡ true → before_common (main_sides s) (main_sides t) ≡ before_common (main_sides s) (t ∷ [])
    climb s h ih d e =
        let u = (on-next t s d e).1 in
        let off : is_among s (main_sides t) ≡ false = by_cases (is_among s (main_sides t)) (λ q. absurd (omega (arith, on_below s t q, on_below t (main_side s) u, main-below s h))) (λ q. q) in
        let one : is_among s (t ∷ []) ≡ false = rw (ne_eqb t s (λ z. d (sym z))) refl in
        before-off s (main_sides t) h off ∙ ap (λ (l : List ℕ). s ∷ l) (ih u) ∙ sym (before-off s (t ∷ []) h one)

append-none : {A : Type 0} (l : List A) → l ++ [] ≡ l
append-none [] = refl
append-none (x ∷ l) = ap (λ m. x ∷ m) (append-none l)

pub path-climb : (s t : ℕ) → is_among t (main_sides s) ≡ true → path s t ≡ climbing s t
unfolding path
path-climb s t e = rw (before_on t (main_sides s) e, before-top t s e) (append-none (climbing s t))

pub path-down : (s t : ℕ) → is_among t (main_sides s) ≡ false → path s t ≡ path s (main_side t) ++ (down t ∷ [])
unfolding path
path-down s t e =
    let h : t ≡ 0 → ⊥ = λ z. never (sym (on-zero s) ∙ rw z at e) in
    rw (before-off t (main_sides s) h e, mains-cons t h, before-skip (main_sides s) t (main_sides (main_side t)) e)
    (sym (append_assoc (up_over (before_common (main_sides s) (main_sides (main_side t)))) (down_over (before_common (main_sides (main_side t)) (main_sides s))) (down t ∷ [])))

climb-more : (n s : ℕ) → (n ≡ 0 → ⊥) → is_among n (main_sides s) ≡ true → climbing s (main_side n) ≡ climbing s n ++ (up n ∷ [])
climb-more n s k =
    by-mains (λ s. is_among n (main_sides s) ≡ true → climbing s (main_side n) ≡ climbing s n ++ (up n ∷ []))
    (λ e. absurd (k (omega (arith, on_below n 0 e))))
    (λ s h ih e. by_cases (eqb s n) (λ q. rw (eqb-true s n q) last) (λ q. more s h ih (eqb-false s n q) e))
    s
  where
    alone : (m : ℕ) → before_common (main_sides m) (m ∷ []) ≡ []
    alone m = before_on m (m ∷ []) (rw (eq-eqb m m refl) refl)

    apart : (m s : ℕ) → (m ≡ s → ⊥) → (s ≡ 0 → ⊥) → climbing s m ≡ up s ∷ climbing (main_side s) m
    apart m s d h = ap up_over (before-off s (m ∷ []) h (rw (ne_eqb m s d) refl))

    last : climbing n (main_side n) ≡ climbing n n ++ (up n ∷ [])
    last = apart (main_side n) n (λ z. omega (arith, main-below n k)) k ∙ rw (alone n, alone (main_side n)) refl

    more : (s : ℕ) → (s ≡ 0 → ⊥) → (is_among n (main_sides (main_side s)) ≡ true → climbing (main_side s) (main_side n) ≡ climbing (main_side s) n ++ (up n ∷ []))
        → (s ≡ n → ⊥) → is_among n (main_sides s) ≡ true → climbing s (main_side n) ≡ climbing s n ++ (up n ∷ [])
    more s h ih d e =
        let u = (on-next n s d e).1 in
        apart (main_side n) s (λ z. omega (arith, main-below n k, on_below n (main_side s) u, main-below s h)) h
        ∙ rw (ih u, apart n s (λ z. d (sym z)) h) refl

pub path-up : (s n : ℕ) → is_among n (main_sides s) ≡ true → (n ≡ 0 → ⊥) → path s (main_side n) ≡ path s n ++ (up n ∷ [])
path-up s n e h = rw (path-climb s n e, path-climb s (main_side n) (on-main n s e)) (climb-more n s h e)

-- the last coupler of a path

last-over : (xs : List Crossing) (x : Crossing) (n : ℕ) → came_over (xs ++ (x ∷ [])) n ≡ eqb x.line n
last-over [] x n = refl
last-over (y ∷ []) x n = refl
last-over (y ∷ z ∷ xs) x n = last-over (z ∷ xs) x n

-- a line above s that is not s is the main side of another
pub above_of : (s t : ℕ) → is_among t (main_sides s) ≡ true → (s ≡ t → ⊥) → (n : ℕ) × ((n ≡ 0 → ⊥) × ((is_among n (main_sides s) ≡ true) × (t ≡ main_side n)))
above_of s t =
    by-mains (λ s. is_among t (main_sides s) ≡ true → (s ≡ t → ⊥) → (n : ℕ) × ((n ≡ 0 → ⊥) × ((is_among n (main_sides s) ≡ true) × (t ≡ main_side n))))
    (λ a d. absurd (d (omega (arith, on_below t 0 a))))
    (λ s h ih a d.
    let u : is_among t (main_sides (main_side s)) ≡ true = (on-next t s d a).1 in
    by_cases (eqb (main_side s) t)
    (λ x. (s, (h, (on-self s, sym (eqb-true (main_side s) t x)))))
    (λ x. let y = ih u (eqb-false (main_side s) t x) in (y.0, (y.1.0, (rw (mains-cons s h) (or_right (eqb s y.0) _ y.1.1.0), y.1.1.1)))))
    s

-- to a line above s it leads up, over the coupler of a line that has that one for its main side
over-above : (s t n : ℕ) → is_among t (main_sides s) ≡ true → ((k : ℕ) → (k ≡ 0 → ⊥) → is_among k (main_sides s) ≡ true → t ≡ main_side k → k ≡ n → ⊥) → came_over (path s t) n ≡ false
over-above s t n q none =
    by_cases (eqb s t)
    (λ e. rw (eqb-true s t e, path-same) refl)
    (λ e.
    let a = above_of s t q (eqb-false s t e) in
    rw (a.1.1.1, path-up s a.0 a.1.1.0 a.1.0, last-over) (ne_eqb a.0 n (none a.0 a.1.0 a.1.1.0 a.1.1.1)))

-- so a path comes to a line over its own coupler exactly if the line is not above s, and to its main side exactly if it is

pub over-own : (s n : ℕ) → (n ≡ 0 → ⊥) → came_over (path s n) n ≡ not (is_among n (main_sides s))
over-own s n h =
    by_cases (is_among n (main_sides s))
    (λ q. rw q (over-above s n n q (λ k hk a e z. omega (arith, main-below k hk))))
    (λ q. rw (q, path-down s n q, last-over) (eq-eqb n n refl))

pub over-main : (s n : ℕ) → (n ≡ 0 → ⊥) → came_over (path s (main_side n)) n ≡ is_among n (main_sides s)
over-main s n h =
    by_cases (is_among n (main_sides s))
    (λ q. rw (q, path-up s n q h, last-over) (eq-eqb n n refl))
    (λ q. rw q
    (by_cases (is_among (main_side n) (main_sides s))
    (λ a. over-above s (main_side n) n a (λ k hk b e z. never (sym b ∙ ap (λ (i : ℕ). is_among i (main_sides s)) z ∙ q)))
    (λ a. rw (path-down s (main_side n) a, last-over) (ne_eqb (main_side n) n (λ z. omega (arith, main-below n h))))))

-- each half has at most as many couplers as its line lies deep

before-depth : (others : List ℕ) → is_among 0 others ≡ true → (n : ℕ) → length (before_common (main_sides n) others) ≤ depth n
before-depth others z =
    by-mains (λ n. length (before_common (main_sides n) others) ≤ depth n)
    (rw (before_on 0 others z) (omega arith))
    (λ n h ih. by_cases (is_among n others) (λ q. rw (before_on n others q) (omega arith)) (λ q. rw (before-off n others h q) (omega (arith, ih, depth-main n h))))

length_up : (ns : List ℕ) → length (up_over ns) ≡ length ns
length_up [] = refl
length_up (n ∷ ns) = ap suc (length_up ns)

length-down : (ns : List ℕ) → length (down_over ns) ≡ length ns
length-down [] = refl
length-down (n ∷ ns) = rw (length-append (down_over ns) (down n ∷ []), length-down ns) (omega arith)

pub distance-halves : (s t : ℕ) → distance s t ≡ length (before_common (main_sides s) (main_sides t)) + length (before_common (main_sides t) (main_sides s))
unfolding distance path
distance-halves s t =
    let ups : List ℕ = before_common (main_sides s) (main_sides t) in
    let downs : List ℕ = before_common (main_sides t) (main_sides s) in
    rw (length-append (up_over ups) (down_over downs), length_up ups, length-down downs) refl

pub distance-four : (s t : ℕ) → distance s t ≤ 4
distance-four s t =
    omega (arith, distance-halves s t, before-depth (main_sides t) (on-zero t) s, before-depth (main_sides s) (on-zero s) t, depth-two s, depth-two t)

pub distance-same : (s : ℕ) → distance s s ≡ 0
unfolding distance
distance-same s = ap length (path-same s)

none_before : (n : ℕ) (others : List ℕ) → is_among 0 others ≡ true → length (before_common (main_sides n) others) ≡ 0 → is_among n others ≡ true
none_before n others z e =
    by_cases (is_among n others) (λ q. q)
    (λ q.
    let h : n ≡ 0 → ⊥ = λ w. never (sym z ∙ rw w at q) in
    absurd (omega (arith, ap length (before-off n others h q))))

-- the starting line alone has an empty path
pub distance-zero : (s t : ℕ) → distance s t ≡ 0 → s ≡ t
distance-zero s t e =
    let a : is_among s (main_sides t) ≡ true = none_before s (main_sides t) (on-zero t) (omega (arith, distance-halves s t)) in
    let b : is_among t (main_sides s) ≡ true = none_before t (main_sides s) (on-zero s) (omega (arith, distance-halves s t)) in
    omega (arith, on_below s t a, on_below t s b)
