-- Whether texts, options, lists, versions, nodes and nodes at versions are equal is decided.
use Rattle.std.proofs.Common.{◌≡◌, ℕ, List, [], ◌∷◌, Option, Some, None, bytes_eq, refl, sym, ap, ◌∙◌, inl, inr}
use Rattle.std.proofs.lemmas.Bool.{cases_Bool, cases_eq, true≢false}
use Rattle.std.proofs.lemmas.Option.{none-some, same_Some}
use Rattle.std.proofs.lemmas.Slice.Eq.{bytes_eq-Decides}
use Rattle.ul_base.specs.declared.node.Node.{Node}
use Rattle.ul_version.specs.Fields.{Fields}
use Rattle.ul_version.specs.declared.fields.Pre.{Pre}
use Rattle.ul_version.specs.declared.fields.PreKind.{PreKind}
use Rattle.ul_version.specs.declared.fields.PreKind.TheVariants.{A, B, Rc}
use Rattle.ul_version.specs.declared.fields.Segment.{Segment}
use Rattle.ul_version.specs.declared.fields.Segment.TheVariants.{Number, Word}
use Rattle.laws_trees.specs.Decided.{Decided}
use Rattle.laws_trees.proofs.Deciding.{both_decided, decided_as}

-- ---- texts, options and lists

pub text_decided : (a b : List ℕ) → Decided (a ≡ b)
text_decided a b = elim (cases_Bool (bytes_eq a b)) [
  | inl e ↦ inl ((bytes_eq-Decides a b).0 e)
  | inr f ↦ inr (λ h. true≢false (sym ((bytes_eq-Decides a b).1 h) ∙ f))
]

module _ {X : Type 0} (decided : (x y : X) → Decided (x ≡ y)) where
  pub option_decided : (p q : Option X) → Decided (p ≡ q)
  option_decided None None = inl refl
  option_decided None (Some y) = inr (λ e. none-some y e)
  option_decided (Some x) None = inr (λ e. none-some x (sym e))
  option_decided (Some x) (Some y) = decided_as (decided x y) (ap Some) (same_Some x y)

  one_list : (x y : X) (xs ys : List X) → (x ≡ y) × (xs ≡ ys) → x ∷ xs ≡ y ∷ ys
  one_list x y xs ys h = λ i. h.0 i ∷ h.1 i

  heads_tails : (x y : X) (xs ys : List X) → x ∷ xs ≡ y ∷ ys → (x ≡ y) × (xs ≡ ys)
  heads_tails x y xs ys e = (cc, cc)

  pub list_decided : (xs ys : List X) → Decided (xs ≡ ys)
  list_decided [] [] = inl refl
  list_decided [] (y ∷ ys) = inr (λ e. cc)
  list_decided (x ∷ xs) [] = inr (λ e. cc)
  list_decided (x ∷ xs) (y ∷ ys) =
      decided_as (both_decided (decided x y) (list_decided xs ys)) (one_list x y xs ys) (heads_tails x y xs ys)

-- ---- versions

kind_decided : (k l : PreKind) → Decided (k ≡ l)
kind_decided A A = inl refl
kind_decided A B = inr (λ e. cc)
kind_decided A Rc = inr (λ e. cc)
kind_decided B A = inr (λ e. cc)
kind_decided B B = inl refl
kind_decided B Rc = inr (λ e. cc)
kind_decided Rc A = inr (λ e. cc)
kind_decided Rc B = inr (λ e. cc)
kind_decided Rc Rc = inl refl

pre_decided : (p q : Pre) → Decided (p ≡ q)
pre_decided p q =
    decided_as (both_decided (kind_decided p.kind q.kind) (cases_eq p.number q.number))
    (λ h. λ i. record { kind = h.0 i; number = h.1 i })
    (λ e. (ap (λ (x : Pre). x.kind) e, ap (λ (x : Pre). x.number) e))

segment_decided : (s t : Segment) → Decided (s ≡ t)
segment_decided (Number m) (Number n) = decided_as (cases_eq m n) (ap Number) (λ e. cc)
segment_decided (Number m) (Word t) = inr (λ e. cc)
segment_decided (Word s) (Number n) = inr (λ e. cc)
segment_decided (Word s) (Word t) = decided_as (text_decided s t) (ap Word) (λ e. cc)

-- the fields are equal, in pairs
abbrev SameFields : Fields → Fields → Type 0
SameFields f g =
    ((f.epoch ≡ g.epoch) × (f.release ≡ g.release))
    × (((f.pre ≡ g.pre) × (f.post ≡ g.post)) × ((f.dev ≡ g.dev) × (f.local ≡ g.local)))

one_version : (f g : Fields) → SameFields f g → f ≡ g
one_version f g h = λ i. record {
  epoch = h.0.0 i;
  release = h.0.1 i;
  pre = h.1.0.0 i;
  post = h.1.0.1 i;
  dev = h.1.1.0 i;
  local = h.1.1.1 i;
}

same_fields : (f g : Fields) → f ≡ g → SameFields f g
same_fields f g e = (
  (ap (λ (x : Fields). x.epoch) e, ap (λ (x : Fields). x.release) e),
  (
    (ap (λ (x : Fields). x.pre) e, ap (λ (x : Fields). x.post) e),
    (ap (λ (x : Fields). x.dev) e, ap (λ (x : Fields). x.local) e),
  ),
)

pub version_decided : (f g : Fields) → Decided (f ≡ g)
version_decided f g =
    decided_as
    (both_decided (both_decided (cases_eq f.epoch g.epoch) (text_decided f.release g.release))
    (both_decided (both_decided (option_decided pre_decided f.pre g.pre) (option_decided cases_eq f.post g.post))
    (both_decided (option_decided cases_eq f.dev g.dev) (list_decided segment_decided f.local g.local))))
    (one_version f g) (same_fields f g)

-- ---- nodes

pub node_decided : (m n : Node) → Decided (m ≡ n)
node_decided m n =
    decided_as (both_decided (text_decided m.name n.name) (option_decided text_decided m.extra n.extra))
    (λ h. λ i. record { name = h.0 i; extra = h.1 i })
    (λ e. (ap (λ (x : Node). x.name) e, ap (λ (x : Node). x.extra) e))

-- nodes at versions
pub place_decided : (p q : Node × Fields) → Decided (p ≡ q)
place_decided p q =
    decided_as (both_decided (node_decided p.0 q.0) (version_decided p.1 q.1)) (λ h. λ i. (h.0 i, h.1 i))
    (λ e. (ap (λ (x : Node × Fields). x.0) e, ap (λ (x : Node × Fields). x.1) e))
