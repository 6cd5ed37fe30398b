-- What is true of each marker that a document's text spells is true of the conditions of the sources that a project file
-- has.
use Rattle.std.proofs.Common.{◌≡◌, ◌||◌, ℕ, ◌+◌, List, [], ◌∷◌, map, filter, fold, not, Bool, true, false, cond, Option, Some, None, Ok, Err, subst}
use Rattle.std.specs.Prelude.{codes, IfSome, bytes_eq}
use Rattle.std.specs.List.{AllByRecursion, list_any}
use Rattle.toml.specs.Data.{Data, table, Members, get_member}
use Rattle.ul_comparison.specs.Formulas.{Formula}
use Rattle.ul_marker.specs.Parts.{asks_extra}
use Rattle.ul_marker.specs.Reading.{marker_of}
use Rattle.ul_project.specs.Lists.{Named, are_names, by_name, lists_in}
use Rattle.ul_project.specs.ProjectFile.{FileFields, file_of}
use Rattle.ul_project.specs.Results.{◌>>=◌, each_from, or_fault}
use Rattle.ul_project.specs.Settings.{said_in, silent_at, sources_in, strictly_silent}
use Rattle.ul_project.specs.Shapes.{Fault, Reading, at_key, items_at, optional_table_at, shape, table_at, text_at, unsupported}
use Rattle.ul_project.specs.Sources.{SaidSource, SourceFields, all_supported, asks_at, bare_marker, condition_at, label_at, listed_sources, of_others, said_sources, some_items, source_at, source_in, sources_of, sources_path, supported}
use Rattle.ul_project.specs.declared.path.ProjectKey.TheVariants as key
use Rattle.ul_project.specs.declared.path.ProjectPath.{ProjectPath}
use Rattle.ul_project.specs.declared.profile.Profile.{Profile}
use Rattle.ul_project.specs.declared.profile.Profile.TheVariants.{Strict, Wide}
use Rattle.laws_given.proofs.FileParts.{Sources, file_from}
use Rattle.laws_given.proofs.NamedLists.{IsNamedList, all_read, fold_named}
use Rattle.laws_given.proofs.ReadMarkers.{AreMarkers}
use Rattle.laws_given.proofs.Readings.{each_all, same_ok, was_there, went_on}

-- the source's condition is such, where it has one
abbrev pub HasCondition : (Formula → Type 0) → SourceFields → Type 0
HasCondition M s = IfSome s.condition M

-- sources with such conditions
abbrev pub AreSources : (Formula → Type 0) → Sources → Type 0
AreSources M sources = AllByRecursion (IsNamedList (AllByRecursion (HasCondition M))) sources

module _ (M : Formula → Type 0) (law : AreMarkers M) where
  -- a source as it is read has such a condition
  abbrev SaysCondition : SaidSource → Type 0
  SaysCondition s = HasCondition M s.source

  -- ---- one source

  bare_has : (path : ProjectPath) (f : Formula) (o : Option Formula) → M f → bare_marker path f ≡ Ok o → IfSome o M
  bare_has path f o h e = by_test (asks_extra f) e
    where
      by_test : (b : Bool) → cond b (Err (shape path)) (Ok (Some f)) ≡ Ok o → IfSome o M
      by_test true e = absurd (cc e)
      by_test false e = subst (λ (x : Option Formula). IfSome x M) (same_ok (Some f) o e) h

  condition_has : (path : ProjectPath) (value : Option Data) (o : Option Formula) → condition_at path value ≡ Ok o
      → IfSome o M
  unfolding condition_at
  condition_has path None o e = subst (λ (x : Option Formula). IfSome x M) (same_ok None o e) tt
  condition_has path (Some value) o e =
      let text = went_on (text_at path (Some value)) _ o e in
      let f = went_on (or_fault (shape path) (marker_of text.0)) (bare_marker path) o text.2 in
      bare_has path f.0 o (law text.0 f.0 (was_there (shape path) (marker_of text.0) f.0 f.1)) f.2

  source_has : (path : ProjectPath) (ms : Members) (s : SaidSource) → source_in path ms ≡ Ok s → SaysCondition s
  unfolding source_in
  source_has path ms s e =
      let label = went_on (label_at path (get_member (codes "index") ms)) _ s e in
      let condition = went_on (condition_at path (get_member (codes "marker") ms)) _ s label.2 in
      let extra = went_on (asks_at path (get_member (codes "extra") ms)) _ s condition.2 in
      let group = went_on (asks_at path (get_member (codes "group") ms)) _ s extra.2 in
      let made : SaidSource =
      record { source = record { label = label.0; condition = condition.0 }; asks = extra.0 || group.0 } in
      subst SaysCondition {x = made} (same_ok made s group.2)
      (condition_has path (get_member (codes "marker") ms) condition.0 condition.1)

  item_has : (path : ProjectPath) (d : Data) (s : SaidSource) → source_at path d ≡ Ok s → SaysCondition s
  unfolding source_at
  item_has path d s e =
      let ms = went_on (table_at path (Some d)) (source_in path) s e in source_has path ms.0 s ms.2

  -- ---- the sources of a name

  -- a source of an array
  abbrev item_at : ProjectPath → ℕ → Data → Reading SaidSource
  item_at path i d = source_at path d

  items_have : (path : ProjectPath) (read : Reading (List Data)) (ss : List SaidSource)
      → (read >>= some_items path >>= each_from (item_at path) 0) ≡ Ok ss → AllByRecursion SaysCondition ss
  items_have path read ss e =
      let items = went_on (read >>= some_items path) (each_from (item_at path) 0) ss e in
      each_all SaysCondition (item_at path) (λ i d s h. item_has path d s h) 0 items.0 ss items.2

  sources_have : (profile : Profile) (name : List ℕ) (value : Option Data) (ss : List SaidSource)
      → sources_of profile name value ≡ Ok ss → AllByRecursion SaysCondition ss
  unfolding sources_of
  sources_have profile name (Some (table ms)) ss e =
      let one = went_on (source_in (sources_path name) ms) (λ s. Ok (s ∷ [])) ss e in
      subst (λ (x : List SaidSource). AllByRecursion SaysCondition x) (same_ok (one.0 ∷ []) ss one.2)
      (source_has (sources_path name) ms one.0 one.1, tt)
  sources_have profile name None ss e =
      items_have (sources_path name) (items_at (sources_path name) None) ss e
  sources_have profile name (Some other) ss e =
      items_have (sources_path name) (items_at (sources_path name) (Some other)) ss e

  -- ---- all sources

  abbrev AreSaid : List (Named (List SaidSource)) → Type 0
  AreSaid lists = AllByRecursion (IsNamedList (AllByRecursion SaysCondition)) lists

  listed_have : (profile : Profile) (ms : Members) (lists : List (Named (List SaidSource)))
      → listed_sources profile ms ≡ Ok lists → AreSaid lists
  listed_have profile ms lists e = by_test (are_names [] ms) e
    where
      no_name : Fault
      no_name = shape (at_key key.Sources)

      by_test : (b : Bool) → cond b (lists_in no_name (sources_of profile) ms) (Err no_name) ≡ Ok lists → AreSaid lists
      by_test false e = absurd (cc e)
      by_test true e =
          all_read (AllByRecursion SaysCondition) no_name (sources_of profile) (sources_have profile) ms lists e

  said_have : (profile : Profile) (uv : Members) (lists : List (Named (List SaidSource)))
      → said_in profile uv ≡ Ok lists → AreSaid lists
  unfolding said_in said_sources
  said_have Strict uv lists e =
      let silent = went_on (silent_at key.Sources (get_member (codes "sources") uv)) _ lists e in
      subst AreSaid (same_ok [] lists silent.2) tt
  said_have Wide uv lists e =
      let ms = went_on (optional_table_at (at_key key.Sources) (get_member (codes "sources") uv)) (listed_sources Wide)
      lists e in
      listed_have Wide ms.0 lists ms.2

  taken : (ss : List SaidSource) → AllByRecursion SaysCondition ss
      → AllByRecursion (HasCondition M) (map (λ (s : SaidSource). s.source) ss)
  taken [] h = tt
  taken (s ∷ ss) h = (h.0, taken ss h.1)

  one_supported : (said : Named (List SaidSource)) (list : Named (List SourceFields)) → supported said ≡ Ok list
      → IsNamedList (AllByRecursion SaysCondition) said → IsNamedList (AllByRecursion (HasCondition M)) list
  one_supported said list e h = by_test (list_any (λ (s : SaidSource). s.asks) said.1) e
    where
      kept : Named (List SourceFields)
      kept = (said.0, map (λ (s : SaidSource). s.source) said.1)

      by_test : (b : Bool) → cond b (Err (unsupported (sources_path said.0))) (Ok kept) ≡ Ok list
          → IsNamedList (AllByRecursion (HasCondition M)) list
      by_test true e = absurd (cc e)
      by_test false e =
          subst (IsNamedList (AllByRecursion (HasCondition M))) (same_ok kept list e) (h.0, taken said.1 h.1)

  each_supported : (i : ℕ) (said : List (Named (List SaidSource))) (lists : Sources)
      → each_from (λ i s. supported s) i said ≡ Ok lists → AreSaid said → AreSources M lists
  unfolding each_from
  each_supported i [] lists e h = subst (AreSources M) (same_ok [] lists e) tt
  each_supported i (s ∷ said) lists e h =
      let one = went_on (supported s) _ lists e in
      let rest = went_on (each_from (λ i s. supported s) (i + 1) said) _ lists one.2 in
      subst (AreSources M) (same_ok (one.0 ∷ rest.0) lists rest.2)
      (one_supported s one.0 one.1 h.0, each_supported (i + 1) said rest.0 rest.1 h.1)

  all_have : (said : List (Named (List SaidSource))) (lists : Sources) → all_supported said ≡ Ok lists → AreSaid said
      → AreSources M lists
  unfolding all_supported
  all_have said lists e h =
      let each = went_on (each_from (λ i s. supported s) 0 said) (λ found. Ok (by_name found)) lists e in
      subst (AreSources M) (same_ok (by_name each.0) lists each.2)
      (fold_named (AllByRecursion (HasCondition M)) [] each.0 tt (each_supported 0 said each.0 each.1 h))

  settings_have : (profile : Profile) (uv : Members) (lists : Sources) → sources_in profile uv ≡ Ok lists
      → AreSources M lists
  unfolding sources_in
  settings_have profile uv lists e =
      let said = went_on (said_in profile uv) _ lists e in
      let silent = went_on (silent_at key.Conflicts (get_member (codes "conflicts") uv)) _ lists said.2 in
      let all = went_on (all_supported said.0) _ lists silent.2 in
      let strictly = went_on (strictly_silent profile uv) _ lists all.2 in
      subst (AreSources M) (same_ok all.0 lists strictly.2)
      (all_have said.0 all.0 all.1 (said_have profile uv said.0 said.1))

  -- the sources of a project file are such
  pub file_sources : (bytes : List ℕ) (f : FileFields) → file_of bytes ≡ Ok f → AreSources M f.settings.sources
  file_sources bytes f e =
      let from = file_from bytes f e in
      settings_have from.profile from.settings.members f.settings.sources from.settings.sources

-- and so are those of other names than the project's
pub others_have : (M : Formula → Type 0) (own : List ℕ) (sources : Sources) → AreSources M sources
    → AreSources M (of_others own sources)
others_have M own [] h = tt
others_have M own (s ∷ sources) h = by_test (not (bytes_eq s.0 own)) (others_have M own sources h.1)
  where
    by_test : (b : Bool) → AreSources M (of_others own sources)
        → AreSources M (cond b (s ∷ of_others own sources) (of_others own sources))
    by_test true rest = (h.0, rest)
    by_test false rest = rest
