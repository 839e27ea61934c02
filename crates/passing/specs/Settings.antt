-- Document 01: "Each coupler holds two rows of four codes, one row for each direction (main to sub, sub to main): individual 0, 1, 2;
-- broadcast 0, 2; groups 0001h to 6FFFh 0, 1, 2; groups 7000h to FFFFh 0, 1, 2."
use Rattle.octets.specs.Octets.{octet_at}
use Rattle.std.specs.Prelude.{ℕ, ◌+◌, List, [], ◌∷◌, Bool, cond, not, ◌&&◌, ◌||◌, get_or, ltb, leb, eqb}

-- "four codes main to sub, four codes sub to main", one octet each, from an index on
abbrev pub row_from : List ℕ → ℕ → List ℕ
row_from s start = octet_at s start ∷ octet_at s (start + 1) ∷ octet_at s (start + 2) ∷ octet_at s (start + 3) ∷ []

abbrev pub codes_from : List ℕ → ℕ → List (List ℕ)
codes_from s start = row_from s start ∷ row_from s (start + 4) ∷ []

-- the code of a direction (0 main to sub, 1 sub to main) and a class of addresses
abbrev pub code_in : List (List ℕ) → ℕ → ℕ → ℕ
code_in codes direction class = get_or (get_or codes direction []) class 0

-- the class of an address by its kind (0 individual, 1 group): individual 0, broadcast 1, groups 0001h to 6FFFh 2, groups 7000h to FFFFh 3;
-- "group 0000h is broadcast"
unfoldable pub class_of : ℕ → ℕ → ℕ
class_of kind destination = cond (eqb kind 1) (cond (eqb destination 0) 1 (cond (ltb destination 0x7000) 2 3)) 0

-- "individual 0, 1, 2; broadcast 0, 2; groups .. 0, 1, 2"
unfoldable pub is_code : ℕ → ℕ → Bool
is_code class code = leb code 2 && not (eqb class 1 && eqb code 1)

unfoldable pub is_row : List (List ℕ) → ℕ → Bool
is_row codes direction =
    is_code 0 (code_in codes direction 0)
    && is_code 1 (code_in codes direction 1)
    && is_code 2 (code_in codes direction 2)
    && is_code 3 (code_in codes direction 3)

unfoldable pub are_codes : List (List ℕ) → Bool
are_codes codes = is_row codes 0 && is_row codes 1

-- some group code is 1
unfoldable pub asks_table : List (List ℕ) → Bool
asks_table codes = eqb (code_in codes 0 2) 1 || eqb (code_in codes 0 3) 1 || eqb (code_in codes 1 2) 1 || eqb (code_in codes 1 3) 1

-- "table length not 8,192, or 0 allowed if no group code is 1"
unfoldable pub table_fits : List (List ℕ) → ℕ → Bool
table_fits codes size = eqb size 8192 || (eqb size 0 && not (asks_table codes))
