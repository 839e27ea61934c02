-- Document 01: "Program output for the first of P12, whole (area, point, line in decimal)": the text as ASCII, every line ended by 0Ah.
use Rattle.std.specs.Prelude.{ℕ, zero, suc, ◌+◌, ◌/◌, ◌%◌, cond, List, [], ◌∷◌, ◌++◌, ltb}
use Rattle.report.specs.Ascii.{ascii}

-- `0` is 30h, and the other digits follow it
abbrev pub digit : ℕ → List ℕ
digit d = (0x30 + d) ∷ []

-- a number in decimal, without leading zeros; it has no more digits than itself and one
abbrev pub decimal_by : ℕ → ℕ → List ℕ
decimal_by zero n = []
decimal_by (suc k) n = cond (ltb n 10) (digit n) (decimal_by k (n / 10) ++ digit (n % 10))

unfoldable pub decimal : ℕ → List ℕ
decimal n = decimal_by (suc n) n

-- a word and the number that it stands before
unfoldable pub told : List ℕ → ℕ → List ℕ
told word n = word ++ decimal n

-- such a line: `forwardings 3`, `refused 17`
unfoldable pub told_line : List ℕ → ℕ → List ℕ
told_line word n = told word n ++ ascii "\n"

-- `4.7 count 2 crossed 0`: "A line is named by .. area times 16 plus line"
unfoldable pub line_text : ℕ → ℕ → ℕ → List ℕ
line_text line count crossed =
    decimal (line / 16) ++ told (ascii ".") (line % 16) ++ told (ascii " count ") count ++ told (ascii " crossed ") crossed ++ ascii "\n"

-- "Each listed line takes three octets: line, count on arrival .., couplers crossed."
abbrev pub list_text : List ℕ → List ℕ
list_text [] = []
list_text (line ∷ []) = []
list_text (line ∷ count ∷ []) = []
list_text (line ∷ count ∷ crossed ∷ rest) = line_text line count crossed ++ list_text rest
