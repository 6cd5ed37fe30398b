-- What the nodes of a name share, and the rows that are made of it.
use Rattle.std.specs.Prelude.{All, slice_get}
use Rattle.std.proofs.Common.{◌≡◌, ◌<◌, ◌+◌, ℕ, zero, suc, List, [], ◌∷◌, ◌++◌, append_assoc, length, get_or, map, take, true, Some, refl, sym, ap, subst, ◌∙◌, arith}
use Rattle.std.specs.List.{AllZip}
use Rattle.std.proofs.lemmas.List.{length-map, map-append}
use Rattle.std.proofs.lemmas.List.Elements.{All-nil, All-cons, All-head, All-tail, All-push, All-weaker}
use Rattle.std.proofs.lemmas.Option.{none-some, same_Some, slice_get_within}
use Rattle.std.proofs.lemmas.Slice.Zip.{AllZip-long}
use Rattle.ul_base.specs.declared.node.Node.{Node}
use Rattle.ul_version.specs.Fields.{plain}
use Rattle.ul_comparison.specs.Truth.{python_release}
use Rattle.ul_specifier.specs.Clauses.{ClauseFields}
use Rattle.ul_specifier.specs.Meaning.{meets_list, lower_list}
use Rattle.ul_requirement.specs.Fields.{ReleaseFields, RequirementFields}
use Rattle.ul_problem.specs.declared.problem.Need.{Need as PlaceNeed}
use Rattle.ul_index.specs.Catalogs.{is_release_fit}
use Rattle.ul_region.specs.Rows.{AreAsked, IsRow}
use Rattle.ul_region.specs.Truths.{DiagramMark, IsGrown, IsTruthAt, PassView}
use Rattle.ul_region.specs.declared.rows.Asked.{Asked}
use Rattle.ul_region.specs.declared.rows.Row.{Row}
use Rattle.ul_region.proofs.ForCallers.{asked_grown, truth_grown}
use Rattle.ul_prepared.specs.Gathered.{AreAimsOf, HasBaseFor, HasRows, IsNamed, release_in}
use Rattle.ul_prepared.specs.Lists.{AreListed, IsListed, listed_in, lists_in, release_listed, releases_in}
use Rattle.ul_prepared.specs.Prepared.{AreRowAims, AreSharedLists}
use Rattle.ul_prepared.specs.Shared.{HasList, IsFitted, IsOfList, IsPlaced, IsRowOf, IsShared, fitted_in, list_in, lists_shared, release_fitted, releases_shared}
use Rattle.ul_prepared.specs.declared.prepared.NameFacts.{NameFacts}
use Rattle.ul_prepared.specs.declared.prepared.Planned.{Planned}
use Rattle.ul_prepared.specs.declared.releases.Listed.{Listed}
use Rattle.ul_prepared.specs.declared.releases.Releases.{Releases}
use Rattle.ul_prepared.specs.declared.shared.Fitted.{Fitted}
use Rattle.ul_prepared.specs.declared.shared.Shared.{Shared}
use Rattle.ul_prepared.proofs.Zipped.{all_there, made_second, zip_at}

-- ---- the same releases

pair_same : (f : Fitted) (l : Listed) (fs : List Fitted) (ls : List Listed) → map fitted_in (f ∷ fs) ≡ map listed_in (l ∷ ls) → (fitted_in f ≡ listed_in l) × (map fitted_in fs ≡ map listed_in ls)
pair_same f l fs ls e = (cc, cc)

-- releases that are fitted have the lists that they had
pub lists_kept : (lists : List (List RequirementFields)) (ls : List Listed) (fs : List Fitted) → map fitted_in fs ≡ map listed_in ls → All (IsListed lists) ls → All (HasList lists) fs
lists_kept lists [] [] e a = All-nil (HasList lists)
lists_kept lists [] (f ∷ fs) e a = cc
lists_kept lists (l ∷ ls) [] e a = cc
lists_kept lists (l ∷ ls) (f ∷ fs) e a = let same = pair_same f l fs ls e in
    All-cons (HasList lists) f fs
    (subst (λ (p : ReleaseFields × ℕ). slice_get lists p.1 ≡ Some p.0.requirements) (sym same.0) (All-head (IsListed lists) l ls a))
    (lists_kept lists ls fs same.1 (All-tail (IsListed lists) l ls a))

pub releases_kept : (ls : List Listed) (fs : List Fitted) → map fitted_in fs ≡ map listed_in ls → map release_fitted fs ≡ map release_listed ls
releases_kept [] [] e = refl
releases_kept [] (f ∷ fs) e = cc
releases_kept (l ∷ ls) [] e = cc
releases_kept (l ∷ ls) (f ∷ fs) e = let same = pair_same f l fs ls e in
    ap (λ (r : ReleaseFields). r ∷ map release_fitted fs) (ap (λ (p : ReleaseFields × ℕ). p.0) same.0) ∙ ap (λ (rs : List ReleaseFields). release_listed l ∷ rs) (releases_kept ls fs same.1)

-- ---- where a release is fit

-- releases that ask for the same interpreters are fit at the same worlds
pub fit_same : (h : PassView) (truths : List DiagramMark) (k : ℕ) (r s : ReleaseFields) → r.python ≡ s.python → IsTruthAt h truths k (is_release_fit r) → IsTruthAt h truths k (is_release_fit s)
fit_same h truths k r s e t = subst (λ (cs : List ClauseFields). IsTruthAt h truths k (λ w. meets_list (lower_list cs) (plain (python_release true w)))) e t

-- ---- where more is known

fitted_grown : (g h : PassView) (ms ns : List DiagramMark) (fs : List Fitted) → IsGrown g ms h ns → All (IsFitted g ms) fs → All (IsFitted h ns) fs
fitted_grown g h ms ns fs more a = All-weaker (IsFitted g ms) (IsFitted h ns) (λ f t. truth_grown g h ms ns f.fit (is_release_fit f.release.now) more t) fs a

-- one release more
pub fitted_more : (g h : PassView) (ms ns : List DiagramMark) (done now : List Fitted) (f : Fitted) → now ≡ done ++ f ∷ [] → IsGrown g ms h ns → All (IsFitted g ms) done → IsFitted h ns f → All (IsFitted h ns) now
fitted_more g h ms ns done now f e more a t = subst (All (IsFitted h ns)) (sym e) (All-push (IsFitted h ns) done f (fitted_grown g h ms ns done more a) t)

pub shared_grown : (g h : PassView) (ms ns : List DiagramMark) (s : Shared) → IsGrown g ms h ns → IsShared g ms s → IsShared h ns s
shared_grown g h ms ns s more k = record { fitted = fitted_grown g h ms ns s.releases.items more k.fitted; listed = k.listed }

pub all_shared_grown : (g h : PassView) (ms ns : List DiagramMark) (ss : List Shared) → IsGrown g ms h ns → All (IsShared g ms) ss → All (IsShared h ns) ss
all_shared_grown g h ms ns ss more a = All-weaker (IsShared g ms) (IsShared h ns) (λ s k. shared_grown g h ms ns s more k) ss a

-- one name more
pub shared_more : (g h : PassView) (ms ns : List DiagramMark) (done now : List Shared) (s : Shared) → now ≡ done ++ s ∷ [] → IsGrown g ms h ns → All (IsShared g ms) done → IsShared h ns s → All (IsShared h ns) now
shared_more g h ms ns done now s e more a k = subst (All (IsShared h ns)) (sym e) (All-push (IsShared h ns) done s (all_shared_grown g h ms ns done more a) k)

-- no name is left
pub none_left : (left : List Releases) → length left ≡ 0 → left ≡ []
none_left [] e = refl
none_left (r ∷ left) e = absurd (omega (arith, e))

-- the first of the names that are left, and the others
pub first_left : (left rest : List Releases) (r : Releases) → left ≡ r ∷ rest → All AreListed left → AreListed r
first_left left rest r e a = All-head AreListed r rest (subst (All AreListed) e a)

pub rest_left : (left rest : List Releases) (r : Releases) → left ≡ r ∷ rest → All AreListed left → All AreListed rest
rest_left left rest r e a = All-tail AreListed r rest (subst (All AreListed) e a)

-- what is shared of one name more of those that are left
images_next : {C : Type 0} (f : Shared → C) (g : Releases → C) (done now : List Shared) (s : Shared) (r : Releases) (left after all : List Releases) → now ≡ done ++ s ∷ [] → left ≡ r ∷ after → f s ≡ g r
    → map f done ++ map g left ≡ map g all → map f now ++ map g after ≡ map g all
images_next {C} f g done now s r left after all e next same h =
    ap (λ (z : List Shared). map f z ++ map g after) e
    ∙ (ap (λ (z : List C). z ++ map g after) (map-append f done (s ∷ []))
    ∙ (append_assoc (map f done) (f s ∷ []) (map g after)
    ∙ (ap (λ (z : C). map f done ++ z ∷ map g after) same
    ∙ (ap (λ (z : List Releases). map f done ++ map g z) (sym next) ∙ h))))

pub names_next : (done now : List Shared) (s : Shared) (r : Releases) (left after all : List Releases) → now ≡ done ++ s ∷ [] → left ≡ r ∷ after → releases_shared s ≡ releases_in r
    → map releases_shared done ++ map releases_in left ≡ map releases_in all → map releases_shared now ++ map releases_in after ≡ map releases_in all
names_next = images_next releases_shared releases_in

-- and their lists
pub lists_next : (done now : List Shared) (s : Shared) (r : Releases) (left after all : List Releases) → now ≡ done ++ s ∷ [] → left ≡ r ∷ after → lists_shared s ≡ lists_in r
    → map lists_shared done ++ map lists_in left ≡ map lists_in all → map lists_shared now ++ map lists_in after ≡ map lists_in all
lists_next = images_next lists_shared lists_in

-- what is asked of each list
pub all_asked_grown : (g h : PassView) (n : Node) (ms ns : List DiagramMark) (qss : List (List RequirementFields)) (lists : List (List Asked)) → IsGrown g ms h ns → AllZip (AreAsked g n ms) qss lists → AllZip (AreAsked h n ns) qss lists
all_asked_grown g h n ms ns [] [] more a = tt
all_asked_grown g h n ms ns [] (asked ∷ lists) more a = absurd a
all_asked_grown g h n ms ns (qs ∷ qss) [] more a = absurd a
all_asked_grown g h n ms ns (qs ∷ qss) (asked ∷ lists) more a = (asked_grown g h n ms ns qs asked more a.0, all_asked_grown g h n ms ns qss lists more a.1)

-- ---- the rows

-- each release has a place among what is asked of the lists
pub placed : {A : Type 0} (lists : List (List RequirementFields)) (made : List A) (fs : List Fitted) → length made ≡ length lists → All (HasList lists) fs → All (IsPlaced (length made)) fs
placed lists made fs size a = All-weaker (HasList lists) (IsPlaced (length made)) (λ f e. subst (λ (n : ℕ). f.list < n) (sym size) (slice_get_within lists f.list f.release.now.requirements e)) fs a

module _ (h : PassView) (n : Node) (truths : List DiagramMark) (lists : List (List RequirementFields)) (asked : List (List Asked)) (are : AllZip (AreAsked h n truths) lists asked) where
  row_right : (f : Fitted) (row : Row) → IsFitted h truths f → HasList lists f → IsRowOf asked f row → IsRow h n truths row
  row_right f row fit has is = record {
    fit = subst (λ (r : ReleaseFields). IsTruthAt h truths row.fit (is_release_fit r)) (sym is.release) (subst (λ (k : ℕ). IsTruthAt h truths k (is_release_fit f.release.now)) (sym is.fit) fit);
    are = subst (λ (r : ReleaseFields). AreAsked h n truths r.requirements row.asked) (sym is.release)
        (zip_at (AreAsked h n truths) lists asked f.list f.release.now.requirements row.asked are has is.asked);
  }

  pub rows_right : (fs : List Fitted) (rows : List Row) → All (IsFitted h truths) fs → All (HasList lists) fs → AllZip (IsRowOf asked) fs rows → All (IsRow h n truths) rows
  rows_right [] [] fits has are = All-nil (IsRow h n truths)
  rows_right [] (row ∷ rows) fits has are = absurd are
  rows_right (f ∷ fs) [] fits has are = absurd are
  rows_right (f ∷ fs) (row ∷ rows) fits has are = All-cons (IsRow h n truths) row rows
      (row_right f row (All-head (IsFitted h truths) f fs fits) (All-head (HasList lists) f fs has) are.0)
      (rows_right fs rows (All-tail (IsFitted h truths) f fs fits) (All-tail (HasList lists) f fs has) are.1)

pub rows_releases : (asked : List (List Asked)) (fs : List Fitted) (rows : List Row) → AllZip (IsRowOf asked) fs rows → map release_in rows ≡ map release_fitted fs
rows_releases asked [] [] are = refl
rows_releases asked [] (row ∷ rows) are = absurd are
rows_releases asked (f ∷ fs) [] are = absurd are
rows_releases asked (f ∷ fs) (row ∷ rows) are =
    ap (λ (r : ReleaseFields). r ∷ map release_in rows) are.0.release ∙ ap (λ (rs : List ReleaseFields). release_fitted f ∷ rs) (rows_releases asked fs rows are.1)

pub rows_aims : (names : List NameFacts) (nodes : List Planned) (aims : List (List (List PlaceNeed))) (asked : List (List Asked)) (fs : List Fitted) (rows : List Row) (own : List (List (List PlaceNeed)))
    → AllZip (AreRowAims names nodes) aims asked → AllZip (IsRowOf asked) fs rows → AllZip (IsOfList aims) fs own → AllZip (AreAimsOf names nodes) own rows
rows_aims names nodes aims asked [] [] [] all are has = tt
rows_aims names nodes aims asked [] [] (kss ∷ own) all are has = absurd has
rows_aims names nodes aims asked [] (row ∷ rows) own all are has = absurd are
rows_aims names nodes aims asked (f ∷ fs) [] own all are has = absurd are
rows_aims names nodes aims asked (f ∷ fs) (row ∷ rows) [] all are has = absurd has
rows_aims names nodes aims asked (f ∷ fs) (row ∷ rows) (kss ∷ own) all are has =
    (zip_at (AreRowAims names nodes) aims asked f.list kss row.asked all has.0 are.0.asked, rows_aims names nodes aims asked fs rows own all are.1 has.1)

-- one list more
pub asked_more : (g h : PassView) (n : Node) (ms ns : List DiagramMark) (qss : List (List RequirementFields)) (done now : List (List Asked)) (i : ℕ) (qs : List RequirementFields) (asked : List Asked)
    → now ≡ done ++ asked ∷ [] → IsGrown g ms h ns → AllZip (AreAsked g n ms) (take i qss) done → AreAsked h n ns qs asked → i < length qss → qs ≡ get_or qss i qs → AllZip (AreAsked h n ns) (take (i + 1) qss) now
asked_more g h n ms ns qss done now i qs asked e more a one lt at =
    made_second (AreAsked h n ns) qss done now i qs asked e (all_asked_grown g h n ms ns (take i qss) done more a) one lt at

-- ---- lists that versions share

-- the release whose list's place stands at a place
list_there : (fs : List Fitted) (k l : ℕ) → slice_get (map list_in fs) k ≡ Some l → (f : Fitted) × (slice_get fs k ≡ Some f) × (f.list ≡ l)
list_there [] k l e = absurd (none-some l e)
list_there (f ∷ fs) zero l e = (f, refl, same_Some f.list l e)
list_there (f ∷ fs) (suc k) l e = list_there fs k l e

module _ (lists : List (List RequirementFields)) (asked : List (List Asked)) (aims : List (List (List PlaceNeed))) (fs : List Fitted) (p : Planned) (has : All (HasList lists) fs)
    (rows : AllZip (IsRowOf asked) fs p.rows.items) (needs : AllZip (IsOfList aims) fs p.aims.items) (places : p.lists.items ≡ map list_in fs) where
  listed_at : (k l : ℕ) → slice_get p.lists.items k ≡ Some l → (f : Fitted) × (slice_get fs k ≡ Some f) × (f.list ≡ l)
  listed_at k l e = list_there fs k l (ap (λ (z : List ℕ). slice_get z k) (sym places) ∙ e)

  own_list : (k l : ℕ) (row : Row) → slice_get p.lists.items k ≡ Some l → slice_get p.rows.items k ≡ Some row → (slice_get lists l ≡ Some row.release.now.requirements) × (slice_get asked l ≡ Some row.asked)
  own_list k l row at there =
      let t = listed_at k l at in
      let is = zip_at (IsRowOf asked) fs p.rows.items k t.0 row rows t.1 there in (
        subst (λ (i : ℕ). slice_get lists i ≡ Some row.release.now.requirements) t.2
            (all_there (HasList lists) fs k t.0 has t.1 ∙ ap (λ (r : ReleaseFields). Some r.requirements) (sym is.release)),
        subst (λ (i : ℕ). slice_get asked i ≡ Some row.asked) t.2 is.asked,
      )

  own_aims : (k l : ℕ) (kss : List (List PlaceNeed)) → slice_get p.lists.items k ≡ Some l → slice_get p.aims.items k ≡ Some kss → slice_get aims l ≡ Some kss
  own_aims k l kss at there =
      let t = listed_at k l at in
      subst (λ (i : ℕ). slice_get aims i ≡ Some kss) t.2 (zip_at (IsOfList aims) fs p.aims.items k t.0 kss needs t.1 there)

  -- versions with one list have the same of it
  pub shared_lists : AreSharedLists p
  shared_lists = record {
    size = ap (λ (z : List ℕ). length z) places ∙ (length-map fs list_in ∙ sym (AllZip-long (IsRowOf asked) fs p.rows.items rows));
    asked = λ j k l a b at_j at_k there_j there_k.
        let x = own_list j l a at_j there_j in
        let y = own_list k l b at_k there_k in
        (same_Some a.release.now.requirements b.release.now.requirements (sym x.0 ∙ y.0), same_Some a.asked b.asked (sym x.1 ∙ y.1));
    aims = λ j k l x y at_j at_k there_j there_k. same_Some x y (sym (own_aims j l x at_j there_j) ∙ own_aims k l y at_k there_k);
  }

-- a node with the rows that are made of what its name's nodes share
pub node_rows : (h : PassView) (names : List NameFacts) (nodes : List Planned) (truths : List DiagramMark) (own : Shared) (asked : List (List Asked)) (aims : List (List (List PlaceNeed))) (p : Planned) → IsNamed names p → HasBaseFor names nodes p p.base
    → IsShared h truths own → AllZip (AreAsked h p.node truths) own.lists.items asked → AllZip (AreRowAims names nodes) aims asked → AllZip (IsRowOf asked) own.releases.items p.rows.items → AllZip (IsOfList aims) own.releases.items p.aims.items
    → p.lists.items ≡ map list_in own.releases.items → HasRows h names nodes truths (releases_shared own) p
node_rows h names nodes truths own asked aims p named base shared are aimed rows needs places = record {
  named = named;
  base = base;
  rows = rows_right h p.node truths own.lists.items asked are own.releases.items p.rows.items shared.fitted shared.listed rows;
  releases = rows_releases asked own.releases.items p.rows.items rows;
  aims = rows_aims names nodes aims asked own.releases.items p.rows.items p.aims.items aimed rows needs;
  shared = shared_lists own.lists.items asked aims own.releases.items p shared.listed rows needs places;
}
