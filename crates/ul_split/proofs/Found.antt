-- What the code finds of a split.
use Rattle.std.proofs.Common.{◌≡◌, ◌<◌, ℕ, List, length, get_or, Bool, false, Decides, Option, Some, None, inl, inr, refl, sym, subst}
use Rattle.std.specs.Prelude.{All, Contains}
use Rattle.std.specs.Borrow.{Bor}
use Rattle.std.proofs.lemmas.List.Elements.{All-contains}
use Rattle.std.proofs.lemmas.Option.{slice_get_within}
use Rattle.ul_base.specs.Kept.{IsFirst}
use Rattle.ul_base.proofs.ForCallers.{first_holds}
use Rattle.ul_requirement.specs.Truth.{applies_at}
use Rattle.ul_index.specs.Regions.{Region}
use Rattle.ul_index.specs.Catalogs.{is_release_fit}
use Rattle.ul_region.specs.Truths.{PassView, DiagramMark, IsTruth}
use Rattle.ul_region.specs.Groups.{InSplit, PartsBy}
use Rattle.ul_split.specs.Split.{Decided, IsUnfit, HasSplit}
use Rattle.ul_split.specs.Answers.{FitsBy, GroupsBy, IsChosen, PartsAt, SplitGives, decided_of}
use Rattle.ul_split.specs.declared.split.Chosen.{Chosen}

pub listed : (h : PassView) (ts : List DiagramMark) (xs : List Chosen) (i : ℕ) (d : Chosen) → All (IsChosen h ts) xs → i < length xs → d ≡ get_or xs i d → IsChosen h ts d
listed h ts xs i d a l e = subst (IsChosen h ts) (sym e) (a i d l)

pub fails : (P : Type 0) (b : Bool) → Decides b P → b ≡ false → P → ⊥
fails P b d e p = cc (d.1 p)

pub parts_at : (h : PassView) (R : Region) (d : Decided) (o : Option (Bor DiagramMark)) (t : Bor DiagramMark) (m : DiagramMark) → o ≡ Some t → m ≡ t.now → PartsBy h d.release.requirements R d.node o → PartsAt h R d (Some m)
parts_at h R d o t m e same p = subst (λ (x : DiagramMark). PartsAt h R d (Some x)) (sym same) (subst (PartsBy h d.release.requirements R d.node) e p)

pub no_parts_at : (h : PassView) (R : Region) (d : Decided) (o : Option (Bor DiagramMark)) → o ≡ None → PartsBy h d.release.requirements R d.node o → PartsAt h R d None
no_parts_at h R d o e p s = subst (PartsBy h d.release.requirements R d.node) e p s.0 s.1

pub group_here : (h : PassView) (R : Region) (d : Decided) (t : DiagramMark) → PartsAt h R d (Some t) → HasSplit R d
group_here h R d t p = (p.1.opener.name, (first_holds (InSplit d.release.requirements R d.node) d.release.requirements p.1.opener p.1.first_group).1)

pub split_by_fit : (h : PassView) (R : Region) (ds : List Decided) (d : Decided) (t : DiagramMark) → IsFirst (IsUnfit R) ds d → IsTruth h t (is_release_fit d.release) → SplitGives h R ds (Some t)
split_by_fit h R ds d t f k = (is_release_fit d.release, inl (record { decided = d; first = f; is = refl }), k)

pub split_by_group : (h : PassView) (R : Region) (xs : List Chosen) (ds : List Decided) (o : Option DiagramMark) → FitsBy R xs ds None → GroupsBy h R ds o → SplitGives h R ds o
split_by_group h R xs ds None f g = record { fit = f; groups = g }
split_by_group h R xs ds (Some t) f g = (applies_at g.2.0 g.0.node, inr (record { fit = f; decided = g.0; first = g.1; requirement = g.2.0; parting = g.2.1; is = refl }), g.2.2)

pub parts_moved : (h : PassView) (R : Region) (d : Decided) (o p : Option DiagramMark) → o ≡ p → PartsAt h R d o → PartsAt h R d p
parts_moved h R d o p e k = subst (PartsAt h R d) e k

pub fit_within : (h : PassView) (ts : List DiagramMark) (d : Chosen) → IsChosen h ts d → d.row.now.fit < length ts
fit_within h ts d c = slice_get_within ts d.row.now.fit c.fit.mark c.fit.at

pub unfit_found : (R : Region) (xs : List Chosen) (ds : List Decided) (o : Option (Bor Chosen)) (d : Bor Chosen) → o ≡ Some d → FitsBy R xs ds o → Contains xs d.now × IsFirst (IsUnfit R) ds (decided_of d.now)
unfit_found R xs ds o d e f = subst (FitsBy R xs ds) e f

pub chosen_listed : (h : PassView) (ts : List DiagramMark) (xs : List Chosen) (d : Chosen) → All (IsChosen h ts) xs → Contains xs d → IsChosen h ts d
chosen_listed h ts xs d a i = All-contains (IsChosen h ts) xs d a i

pub fits_none : (R : Region) (xs : List Chosen) (ds : List Decided) (o : Option (Bor Chosen)) → o ≡ None → FitsBy R xs ds o → FitsBy R xs ds None
fits_none R xs ds o e f = subst (FitsBy R xs ds) e f
