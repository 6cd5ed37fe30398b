-- Files in the order of their names.
use Rattle.std.proofs.Common.{◌≡◌, ◌++◌, ◌||◌, ℕ, List, [], ◌∷◌, map, fold, Option, Some, None, Bool, true, false, cond, refl, ap, sym, ◌∙◌}
use Rattle.std.specs.BTreeSet.{insert_key}
use Rattle.std.specs.Cmp.Lexicographic.{nat_list_eq_equiv, slice_cmp, texts_ties}
use Rattle.std.specs.List.{AllByRecursion, list_any}
use Rattle.std.specs.List.Sorted.{IsStrictlySortedBy}
use Rattle.std.specs.Ordering.{is_eq, nat_cmp, on}
use Rattle.std.specs.Str.{bytes_eq}
use Rattle.std.specs.declared.cmp.Ordering.TheVariants.{Less}
use Rattle.ul_requirement.specs.Fields.{FileFields, FilesRise}
use Rattle.ul_index.specs.Documents.{by_name, differ_after, has_file, ordered_files}
use Rattle.ul_index.specs.declared.file_set.ByName.{ByName}
use Rattle.ul_index.proofs.Inserted.{insert_mapped}

ties : (a b : List ℕ) → is_eq (slice_cmp nat_cmp a b) ≡ bytes_eq b a
ties a b = sym (texts_ties a b) ∙ nat_list_eq_equiv.symm a b

-- whether one of the keys has a name
pub any_key : (ks : List ByName) (name : List ℕ) → list_any (λ k. is_eq (slice_cmp nat_cmp name k.file.file)) ks ≡ has_file (map (λ k. k.file) ks) name
any_key [] name = refl
any_key (k ∷ ks) name = rw (ties name k.file.file, any_key ks name) refl

or_is : (a b : Bool) → cond a true b ≡ (a || b)
or_is true b = refl
or_is false b = refl

-- one more name is there
pub names_more : (file name : List ℕ) (was now : Bool) → now ≡ cond (is_eq (slice_cmp nat_cmp file name)) true was → now ≡ (bytes_eq file name || was)
names_more file name was now e = e ∙ or_is (is_eq (slice_cmp nat_cmp file name)) was ∙ ap (λ b. b || was) (sym (texts_ties file name))

all_map : (k : ByName) (ks : List ByName) → AllByRecursion (λ y. by_name k.file y.file ≡ Less) ks → AllByRecursion (λ f. by_name k.file f ≡ Less) (map (λ x. x.file) ks)
all_map k [] h = tt
all_map k (x ∷ xs) h = (h.0, all_map k xs h.1)

-- files of keys in order are in order
pub files_rise : (ks : List ByName) → IsStrictlySortedBy (on (λ x. x.file) by_name) ks → FilesRise (map (λ x. x.file) ks)
unfolding IsStrictlySortedBy
files_rise [] h = tt
files_rise (k ∷ ks) h = (all_map k ks h.0, files_rise ks h.1)

-- a key is put where its file is
pub insert_map : (ks : List ByName) (k : ByName) → map (λ x. x.file) (insert_key (on (λ x. x.file) by_name) ks k) ≡ insert_key by_name (map (λ x. x.file) ks) k.file
insert_map ks k = insert_mapped (λ x. x.file) by_name ks k

-- ---- files that are added one after another

any_push : (fs : List FileFields) (f : FileFields) (name : List ℕ) → has_file (fs ++ f ∷ []) name ≡ (bytes_eq f.file name || has_file fs name)
any_push [] f name = refl
any_push (g ∷ gs) f name = swapped (bytes_eq g.file name) (bytes_eq f.file name) (has_file gs name) (any_push gs f name)
  where
    swapped : (a b c : Bool) {d : Bool} → d ≡ (b || c) → (a || d) ≡ (b || (a || c))
    swapped true true c e = refl
    swapped true false c e = refl
    swapped false b c e = e

-- the set has the names of these files
abbrev pub Holds : List FileFields → (List ℕ → Bool) → Type 0
Holds earlier test = (name : List ℕ) → test name ≡ has_file earlier name

pub holds_more : (earlier : List FileFields) (f : FileFields) (test now : List ℕ → Bool) → Holds earlier test → ((name : List ℕ) → now name ≡ (bytes_eq f.file name || test name))
    → Holds (earlier ++ f ∷ []) now
holds_more earlier f test now h n name = n name ∙ ap (λ b. bytes_eq f.file name || b) (h name) ∙ sym (any_push earlier f name)

-- files in order behind those of a list, where their names differ
abbrev pub ordered_behind : List FileFields → List FileFields → List FileFields → Option (List FileFields)
ordered_behind earlier set rest = cond (differ_after earlier rest) (Some (fold (insert_key by_name) set rest)) None

pub ordered_start : (files set : List FileFields) → set ≡ [] → ordered_files files ≡ ordered_behind [] set files
unfolding ordered_files
ordered_start files set e = rw e refl
