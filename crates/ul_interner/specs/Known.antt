-- What a pass knows.
use Rattle.std.specs.Prelude.{◌≡◌, ℕ, List, [], map, replicate, Option, refl}
use Rattle.std.specs.List.{slice_get}
use Rattle.std.specs.Coded.{Coded, code_by, coded×, coded_list}
pub use Rattle.atomic_table.specs.Seated.{TableId}
use Rattle.atomic_table.specs.Seated.{table_id_coded}
use Rattle.ul_core.specs.declared.trees.Tree.{Tree}
use Rattle.ul_interner.specs.Marked.{Marked, marked_code, plain, id_of}
use Rattle.ul_interner.specs.Logs.{at, AllBegin, KnownIn}

-- a pass, as contracts see it: the interner that it is of, and the logs of marks that it has seen
pub record Held (L : Type 0) : Type 0 where
  pub table : TableId
  pub logs : List (List (Marked L))

-- how it is stored
abbrev pub held_code : {L : Type 0} → Coded L → Coded (Held L)
held_code {L} c = code_by (TableId × List (List (Marked L))) (coded× table_id_coded (coded_list (coded_list (marked_code c)))) (λ h. (h.table, h.logs)) (λ p. record { table = p.0; logs = p.1 }) (λ _. refl)

-- the first pass of an interner, which has seen empty logs
abbrev pub first_pass : {L : Type 0} → TableId → Held L
first_pass table = record { table = table; logs = replicate table.slots [] }

module _ {L : Type 0} where
  -- the tree at an identity, if the pass has seen so far
  abbrev pub tree_at : Held L → ℕ × ℕ → Option (Tree L)
  tree_at h i = slice_get (map plain (at h.logs i.0)) i.1

  -- a mark is known where it stands in the logs at its identity, and its parts are known
  abbrev pub Known : Held L → Marked L → Type 0
  Known h = KnownIn h.logs

  -- h knows what g knew: it is of the same interner, and each of its logs begins with what g has seen of it
  pub record Knows (g h : Held L) : Type 0 where
    pub table : h.table ≡ g.table
    pub logs : AllBegin g.logs h.logs

  -- of marks that are known to one pass those of one identity are one, and so are those of one tree
  pub record IsOneMark (a b : Marked L) : Type 0 where
    pub by_id : id_of a ≡ id_of b → a ≡ b
    pub by_tree : plain a ≡ plain b → a ≡ b
