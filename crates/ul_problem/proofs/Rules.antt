-- What the rules of a problem give.
use Rattle.std.proofs.Common.{◌≡◌, ℕ, zero, suc, List, [], ◌∷◌, ◌++◌, Option, Some, None, ◌<◌, inl, inr, length, arith, refl, sym, ap, subst, ◌∙◌, slice_get, get_or, append_assoc}
use Rattle.std.proofs.lemmas.List.{get_or_default}
use Rattle.std.proofs.lemmas.Option.{none-some, same_Some, slice_get_within, slice_get_read}
use Rattle.ul_problem.proofs.Members.{at_head, in_rest, head_or_rest, in_none, one_place, one_left}
use Rattle.ul_problem.specs.Plain.{Plain, node_at, size_in, size_of, base_in, base_of, barred_in, barred_of, needs_in, needs_of}
use Rattle.std.specs.List.{Contains}
use Rattle.ul_problem.specs.Problems.{AllAre, HasBase, IsBaseIn, IsBaseOf, HasTarget, IsAfterBase, IsNeedAfter, AreNeedsAfter, AreNeeds, IsNodeOf, IsSingle, IsExtraOf, AreOneBase, IsWellFormed}
use Rattle.ul_problem.specs.declared.problem.Need.{Need}
use Rattle.ul_problem.specs.declared.problem.NodeFacts.{NodeFacts}

-- each of a list is such
pub all_at : {A : Type 0} (P : A → Type 0) (xs : List A) (k : ℕ) (x : A) → AllAre P xs → slice_get xs k ≡ Some x → P x
all_at P [] k x h e = absurd (none-some x e)
all_at P (y ∷ ys) zero x h e = subst P (same_Some y x e) h.0
all_at P (y ∷ ys) (suc k) x h e = all_at P ys k x h.1 e

pub all_one : {A : Type 0} (P : A → Type 0) (xs : List A) (x : A) → AllAre P xs → Contains xs x → P x
all_one P xs x h i = let k = one_place xs x i in all_at P xs k.0 x h k.1

-- the roots
root_of : (nodes : List NodeFacts) (rs : List ℕ) → AreOneBase nodes rs → (n : ℕ) × Contains rs n
root_of nodes [] h = absurd h
root_of nodes (r ∷ rs) h = (r, at_head r rs r refl)

pub some_root : (p : Plain) → IsWellFormed p → (n : ℕ) × Contains p.roots n
some_root p wf = root_of p.nodes p.roots wf.roots

pub root_single : (p : Plain) (n : ℕ) → IsWellFormed p → Contains p.roots n → size_of p n ≡ 1
root_single p n wf i = all_one (IsSingle p.nodes) p.roots n wf.single i

base_root : (p : Plain) (rs : List ℕ) (n b : ℕ) → AreOneBase p.nodes rs → Contains rs n → base_of p n ≡ Some b → Contains rs b
base_root p [] n b h i e = absurd h
base_root p (r ∷ rs) n b h i e = elim (head_or_rest r rs n i) [
  | inl f ↦ absurd (none-some b (sym (ap (λ (k : ℕ). base_of p k) (sym f) ∙ h.0) ∙ e))
  | inr j ↦ at_head r rs b (same_Some r b (sym (all_one (IsExtraOf p.nodes r) rs n h.1 j) ∙ e))
]

pub root_base : (p : Plain) (n b : ℕ) → IsWellFormed p → Contains p.roots n → base_of p n ≡ Some b → Contains p.roots b
root_base p n b wf = base_root p p.roots n b wf.roots

pub node_whole : (p : Plain) (n : ℕ) (f : NodeFacts) → IsWellFormed p → node_at p n ≡ Some f → IsNodeOf p.nodes f
node_whole p n f wf e = all_at (IsNodeOf p.nodes) p.nodes n f wf.nodes e

-- what is known of a node in range
pub at_node : (p : Plain) (n : ℕ) → n < length p.nodes → (f : NodeFacts) × (node_at p n ≡ Some f)
at_node p n h = found p.nodes n h
  where
    found : (fs : List NodeFacts) (k : ℕ) → k < length fs → (f : NodeFacts) × (slice_get fs k ≡ Some f)
    found [] k i = absurd (omega arith)
    found (f ∷ fs) zero i = (f, refl)
    found (f ∷ fs) (suc k) i = found fs k (omega arith)

pub node_of_size : (p : Plain) (n v : ℕ) → v < size_of p n → (f : NodeFacts) × (node_at p n ≡ Some f)
node_of_size p n v h = which (node_at p n) h
  where
    which : (o : Option NodeFacts) → v < size_in o → (f : NodeFacts) × (o ≡ Some f)
    which None i = absurd (omega arith)
    which (Some f) i = (f, refl)

pub node_of_base : (p : Plain) (n b : ℕ) → base_of p n ≡ Some b → (f : NodeFacts) × (node_at p n ≡ Some f) × (f.base ≡ Some b)
node_of_base p n b h = which (node_at p n) h
  where
    which : (o : Option NodeFacts) → base_in o ≡ Some b → (f : NodeFacts) × (o ≡ Some f) × (f.base ≡ Some b)
    which None e = absurd (none-some b e)
    which (Some f) e = (f, refl, e)

pub barred_size : (p : Plain) (n : ℕ) → IsWellFormed p → length (barred_of p n) ≡ size_of p n
barred_size p n wf = which (node_at p n) (λ f e. node_whole p n f wf e)
  where
    which : (o : Option NodeFacts) → ((f : NodeFacts) → o ≡ Some f → IsNodeOf p.nodes f) → length (barred_in o) ≡ size_in o
    which None h = refl
    which (Some f) h = (h f refl).barred_size

-- the needs of a version
row_whole : (nodes : List NodeFacts) (rows : List (List Need)) (v : ℕ) → AllAre (AreNeeds nodes) rows → AreNeeds nodes (get_or rows v [])
row_whole nodes [] v h = tt
row_whole nodes (row ∷ rows) zero h = h.0
row_whole nodes (row ∷ rows) (suc v) h = row_whole nodes rows v h.1

needs_whole : (p : Plain) (n v : ℕ) → IsWellFormed p → AreNeeds p.nodes (needs_of p n v)
needs_whole p n v wf = which (node_at p n) (λ f e. node_whole p n f wf e)
  where
    which : (o : Option NodeFacts) → ((f : NodeFacts) → o ≡ Some f → IsNodeOf p.nodes f) → AreNeeds p.nodes (needs_in o v)
    which None h = tt
    which (Some f) h = row_whole p.nodes f.needs v (h f refl).needs

target_one : (b : ℕ) (needs : List Need) → HasTarget b needs → (other : Need) × Contains needs other × (other.node ≡ b)
target_one b [] h = absurd h
target_one b (x ∷ xs) (inl e) = (x, at_head x xs x refl, e)
target_one b (x ∷ xs) (inr h) = let r = target_one b xs h in (r.0, in_rest x xs r.0 r.1, r.2)

-- what is true of a need among others, and of what stands before it
need_in : (nodes : List NodeFacts) (earlier needs : List Need) (need : Need) → AreNeedsAfter nodes earlier needs → Contains needs need
    → (before : List Need) × IsNeedAfter nodes before need × ((x : Need) → Contains before x → Contains (earlier ++ needs) x)
need_in nodes earlier [] need h i = absurd (in_none need i)
need_in nodes earlier (x ∷ xs) need h i = elim (head_or_rest x xs need i) [
  | inl e ↦ (earlier, subst (IsNeedAfter nodes earlier) e h.0, λ y j. one_left y earlier (x ∷ xs) j)
  | inr g ↦ (
      let r = need_in nodes (earlier ++ x ∷ []) xs need h.1 g in
      (r.0, r.1, λ y j. subst (λ (l : List Need). Contains l y) (append_assoc earlier (x ∷ []) xs) (r.2 y j)))
]

pub need_base : (p : Plain) (n v b : ℕ) (need : Need) → IsWellFormed p → Contains (needs_of p n v) need → base_of p need.node ≡ Some b → (other : Need) × Contains (needs_of p n v) other × (other.node ≡ b)
need_base p n v b need wf h e =
    let r = need_in p.nodes [] (needs_of p n v) need (needs_whole p n v wf) h in
    let c = after r.0 (base_of p need.node) r.1.2 e in
    (c.0, r.2 c.0 c.1, c.2)
  where
    after : (earlier : List Need) (o : Option ℕ) → IsAfterBase earlier o → o ≡ Some b → (other : Need) × Contains earlier other × (other.node ≡ b)
    after earlier None g f = absurd (none-some b f)
    after earlier (Some c) g f = let t = target_one c earlier g in (t.0, t.1, t.2 ∙ same_Some c b f)

-- a need's target and its set
pub need_fits : (p : Plain) (n v : ℕ) (need : Need) → IsWellFormed p → Contains (needs_of p n v) need → (need.node < length p.nodes) × (length need.permitted ≡ size_of p need.node)
need_fits p n v need wf h = let r = need_in p.nodes [] (needs_of p n v) need (needs_whole p n v wf) h in (r.1.0, r.1.1)

-- a base is a node of the problem, with as many versions
pub base_fits : (p : Plain) (n b : ℕ) → IsWellFormed p → base_of p n ≡ Some b → (b < length p.nodes) × (size_of p b ≡ size_of p n)
base_fits p n b wf e =
    let f = node_of_base p n b e in
    let g = at_base f.0 (f.0).node.extra (f.0).base ((node_whole p n f.0 wf f.1).has_base) f.2 in
    let h = in_base f.0 (slice_get p.nodes b) g in
    (slice_get_within p.nodes b h.0 h.1, ap size_in h.1 ∙ (ap length h.2.2 ∙ sym (ap size_in f.1)))
  where
    at_base : (q : NodeFacts) (extra : Option (List ℕ)) (base : Option ℕ) → HasBase p.nodes q extra base → base ≡ Some b → IsBaseIn (slice_get p.nodes b) q
    at_base q None None h i = absurd (none-some b i)
    at_base q None (Some c) h i = absurd h
    at_base q (Some x) None h i = absurd (none-some b i)
    at_base q (Some x) (Some c) h i = subst (λ (k : ℕ). IsBaseIn (slice_get p.nodes k) q) (same_Some c b i) h

    in_base : (q : NodeFacts) (o : Option NodeFacts) → IsBaseIn o q → (g : NodeFacts) × (o ≡ Some g) × IsBaseOf g q
    in_base q None h = absurd h
    in_base q (Some g) h = (g, refl, h)

-- the needs of a version, as they are read
pub needs_read : (p : Plain) (nodes : List NodeFacts) (n v : ℕ) (f : NodeFacts) (rows : List (List Need)) (row : List Need) → IsWellFormed p → nodes ≡ p.nodes → n < length p.nodes → f ≡ get_or nodes n f → v < size_of p n
    → rows ≡ f.needs → (v < length rows) × (row ≡ get_or rows v row → row ≡ needs_of p n v)
needs_read p nodes n v f rows row wf en l is h er =
    let e : slice_get p.nodes n ≡ Some f = slice_get_read p.nodes (length p.nodes) n f refl l (is ∙ ap (λ (ns : List NodeFacts). get_or ns n f) en) in
    let w = node_whole p n f wf e in
    let count : length f.needs ≡ length f.versions = w.rows in
    let size : size_of p n ≡ length f.versions = ap size_in e in
    let within : v < length f.needs = omega arith in (
      subst (λ (rs : List (List Need)). v < length rs) (sym er) within,
      λ r. r ∙ (ap (λ (rs : List (List Need)). get_or rs v row) er ∙ (get_or_default f.needs v row [] within ∙ sym (ap (λ (o : Option NodeFacts). needs_in o v) e))),
    )
