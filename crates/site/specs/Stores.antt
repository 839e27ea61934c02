-- Document 01: "Table numbers 0 to 127 count in the project store, 128 to 254 in the site's own store from its start; FFh is none.
-- A store is a multiple of 8,192 octets, at most 128 and 127 tables."
use Rattle.std.specs.Prelude.{ℕ, ◌+◌, ◌-◌, ◌*◌, ◌%◌, Bool, cond, ◌&&◌, List, [], ltb, leb, eqb, length, take, drop}
use Rattle.octets.specs.Part.{PartAt}
use Rattle.site.specs.declared.stores.Stores.{Stores as LentStores}
use Rattle.std.specs.Borrow.{Bor}

pub record Stores : Type 0 where
  pub project : List ℕ
  pub own : List ℕ

abbrev pub stores : List ℕ → List ℕ → Stores
stores project own = record { project = project; own = own }

-- what two lent stores hold
abbrev pub stores_in : LentStores → Stores
stores_in lent = stores lent.project.now lent.own.now

-- whether a store has a table at this place
unfoldable pub is_stored : ℕ → List ℕ → Bool
is_stored place store = leb (place * 8192 + 8192) (length store)

-- the table at this place of a store, and where it starts; no octets where the store does not have it
unfoldable pub table_at : ℕ → List ℕ → List ℕ
table_at place store = cond (is_stored place store) (take 8192 (drop (place * 8192) store)) []

unfoldable pub start_at : ℕ → List ℕ → ℕ
start_at place store = cond (is_stored place store) (place * 8192) 0

-- what a table number chooses: of the project store, of the site's own, or none
abbrev pub chosen : {A : Type 0} → ℕ → A → A → A → A
chosen number project own none = cond (ltb number 128) project (cond (ltb number 255) own none)

unfoldable pub table_of : ℕ → Stores → List ℕ
table_of number st = chosen number (table_at number st.project) (table_at (number - 128) st.own) []

-- the part of a lent store that a table number chooses: that very memory, not a copy
pub record TableFrom (number : ℕ) (project own part : Bor (List ℕ)) : Type 0 where
  pub table :
      PartAt
      (chosen number project own own)
      part
      (chosen number (start_at number project.now) (start_at (number - 128) own.now) 0)
      (table_of number (stores project.now own.now))

unfoldable pub is_store : ℕ → ℕ → Bool
is_store most size = eqb (size % 8192) 0 && leb size (most * 8192)

unfoldable pub are_stores : Stores → Bool
are_stores st = is_store 128 (length st.project) && is_store 127 (length st.own)
