-- Well formed locks and shaped texts.
use Rattle.std.proofs.Common.{ℕ, List, [], ◌∷◌, ◌++◌, map, true, false, refl}
use Rattle.std.specs.Prelude.{flat_map}
use Rattle.ul_base.specs.Names.{IsNormalName, name_of, is_name, normal_form}
use Rattle.ul_nodes.specs.Plain.{Plain, truth, node}
use Rattle.ul_requirement.specs.Fields.{FileFields, IsFile}
use Rattle.ul_lines.specs.Reader.{Each}
use Rattle.ul_lines.proofs.ForCallers.{Each-left, Each-right, Each-join}
use Rattle.ul_lock.specs.declared.parts.Edge.{Edge}
use Rattle.ul_lock.specs.declared.parts.Extra.{Extra}
use Rattle.ul_lock.specs.declared.parts.Locked.{Locked}
use Rattle.ul_lock.specs.declared.parts.Lock.{Lock}
use Rattle.ul_lock_lines.specs.declared.lines.Edition.{Edition}
use Rattle.ul_lock_lines.specs.declared.lines.Edition.TheVariants.{Second as two}
use Rattle.ul_lock_lines.specs.declared.lines.Line.{Line}
use Rattle.ul_lock_lines.specs.declared.lines.Line.TheVariants.{Item as item, Close as close, File as file, Edge as edge}
use Rattle.ul_lock.specs.Region.{IsRegion}
use Rattle.ul_lock_lines.specs.Text.{IsReadRegion, Fit}
use Rattle.ul_lock_lines.proofs.ForCallers.{all_readable}
use Rattle.ul_lock.specs.WellFormed.{IsEdge, IsListed, IsPackage, IsWellFormed}
use Rattle.ul_lock_write.specs.declared.sheets.Sheet.{Sheet}
use Rattle.ul_lock_read.specs.Shaped.{MayHave, IsExtra, IsBlock}
use Rattle.ul_lock_write.specs.Readable.{AreEdgesReadable, AreExtrasReadable, IsLockReadable, IsPackageReadable, IsReadable}
use Rattle.ul_lock_write.specs.Sheet.{forks_key, files_key, edges_key, supported_lines, fork_lines, file_lines, edge_lines, extra_lines, listed, table_lines, block_top, block_front, block_lines}
use Rattle.ul_lock_write.specs.Texts.{sheet_in, lock_of, lock_text}
use Rattle.ul_lock_read.specs.ShapedTexts.{IsText}
use Rattle.ul_lock_read.specs.TextOf.{IsTextOf}
use Rattle.ul_lock_read.specs.Answers.{IsWell}
use Rattle.ul_lock_read.specs.Finding.{AreSorted, HasVersion}

-- ---- keys of lines

forks_fits : IsNormalName forks_key
unfolding name_of is_name normal_form
forks_fits = refl

files_fits : IsNormalName files_key
unfolding name_of is_name normal_form
files_fits = refl

edges_fits : IsNormalName edges_key
unfolding name_of is_name normal_form
edges_fits = refl

-- ---- lines of a list

map_fits : {A : Type 0} (line : A → Line) (P : A → Type 0) → ((x : A) → P x → Fit (line x)) → (xs : List A) → Each P xs → Each Fit (map line xs)
map_fits line P w [] h = tt
map_fits line P w (x ∷ xs) h = (w x h.0, map_fits line P w xs h.1)

fits_map : {A : Type 0} (line : A → Line) (P : A → Type 0) → ((x : A) → Fit (line x) → P x) → (xs : List A) → Each Fit (map line xs) → Each P xs
fits_map line P w [] h = tt
fits_map line P w (x ∷ xs) h = (w x h.0, fits_map line P w xs h.1)

ended_fits : {A : Type 0} (line : A → Line) (P : A → Type 0) → ((x : A) → P x → Fit (line x)) → (xs : List A) → Each P xs → Each Fit (map line xs ++ close ∷ [])
ended_fits line P w xs h = Each-join Fit (map line xs) (close ∷ []) (map_fits line P w xs h) (tt, tt)

fits_ended : {A : Type 0} (line : A → Line) (P : A → Type 0) → ((x : A) → Fit (line x) → P x) → (xs : List A) → Each Fit (map line xs ++ close ∷ []) → Each P xs
fits_ended line P w xs h = fits_map line P w xs (Each-left Fit (map line xs) (close ∷ []) h)

-- regions whose texts are read, as two facts
regions_read : (ms : List Plain) → Each IsRegion ms → Each IsReadable ms → Each IsReadRegion ms
regions_read [] h r = tt
regions_read (m ∷ ms) h r = (record { region = h.0; readable = r.0 }, regions_read ms h.1 r.1)

read_regions : (ms : List Plain) → Each IsReadRegion ms → Each IsRegion ms × Each IsReadable ms
read_regions [] h = (tt, tt)
read_regions (m ∷ ms) h = let k = read_regions ms h.1 in ((h.0.region, k.0), (h.0.readable, k.1))

supported_fits : (m : Plain) → IsReadRegion m → Each Fit (supported_lines m)
supported_fits (truth true) h = tt
supported_fits (truth false) h = absurd (h.region.not_false refl)
supported_fits (node l d bs) h = ((h, refl), tt)

fits_supported : (m : Plain) → Each Fit (supported_lines m) → IsReadRegion m
fits_supported (truth true) h = all_readable
fits_supported (truth false) h = h.0.0
fits_supported (node l d bs) h = h.0.0

forks_fit : (ms : List Plain) → Each IsReadRegion ms → Each Fit (fork_lines ms)
forks_fit [] h = tt
forks_fit (m ∷ ms) h = (forks_fits, ended_fits item IsReadRegion (λ x p. p) (m ∷ ms) h)

fits_forks : (ms : List Plain) → Each Fit (fork_lines ms) → Each IsReadRegion ms
fits_forks [] h = tt
fits_forks (m ∷ ms) h = fits_ended item IsReadRegion (λ x p. p) (m ∷ ms) h.1

files_fit : (fs : List FileFields) → Each IsFile fs → Each Fit (file_lines fs)
files_fit [] h = tt
files_fit (f ∷ fs) h = (files_fits, ended_fits file IsFile (λ x p. p) (f ∷ fs) h)

fits_files : (fs : List FileFields) → Each Fit (file_lines fs) → Each IsFile fs
fits_files [] h = tt
fits_files (f ∷ fs) h = fits_ended file IsFile (λ x p. p) (f ∷ fs) h.1

-- an edge whose marker's text is read
abbrev IsReadEdge : Edge → Type 0
IsReadEdge e = IsEdge e × IsReadable e.marker

edges_read : (es : List Edge) → Each IsEdge es → AreEdgesReadable es → Each IsReadEdge es
edges_read [] h r = tt
edges_read (e ∷ es) h r = ((h.0, r.0), edges_read es h.1 r.1)

read_edges : (es : List Edge) → Each IsReadEdge es → Each IsEdge es × AreEdgesReadable es
read_edges [] h = (tt, tt)
read_edges (e ∷ es) h = let k = read_edges es h.1 in ((h.0.0, k.0), (h.0.1, k.1))

edges_fit : (es : List Edge) → Each IsReadEdge es → Each Fit (edge_lines es)
edges_fit [] h = tt
edges_fit (e ∷ es) h = (edges_fits, ended_fits edge IsReadEdge (λ x p. p) (e ∷ es) h)

fits_edges : (es : List Edge) → Each Fit (edge_lines es) → Each IsReadEdge es
fits_edges [] h = tt
fits_edges (e ∷ es) h = fits_ended edge IsReadEdge (λ x p. p) (e ∷ es) h.1

listed_fit : (n : List ℕ) (es : List Edge) → IsNormalName n → Each IsReadEdge es → Each Fit (listed n es)
listed_fit n [] k h = (k, tt)
listed_fit n (e ∷ es) k h = (k, ended_fits edge IsReadEdge (λ x p. p) (e ∷ es) h)

fits_listed : (n : List ℕ) (es : List Edge) → Each Fit (listed n es) → IsNormalName n × Each IsReadEdge es
fits_listed n [] h = (h.0, tt)
fits_listed n (e ∷ es) h = (h.0, fits_ended edge IsReadEdge (λ x p. p) (e ∷ es) h.1)

extras_fit : (xs : List Extra) → Each IsListed xs → AreExtrasReadable xs → Each Fit (flat_map extra_lines xs)
extras_fit [] h r = tt
extras_fit (x ∷ xs) h r =
    Each-join Fit (extra_lines x) (flat_map extra_lines xs) (listed_fit x.name x.edges h.0.name (edges_read x.edges h.0.edges.each r.0)) (extras_fit xs h.1 r.1)

fits_extras : (xs : List Extra) → Each Fit (flat_map extra_lines xs) → Each IsExtra xs → Each IsListed xs × AreExtrasReadable xs
fits_extras [] h r = (tt, tt)
fits_extras (x ∷ xs) h r =
    let k = fits_listed x.name x.edges (Each-left Fit (extra_lines x) (flat_map extra_lines xs) h) in
    let own = read_edges x.edges k.1 in
    let rest = fits_extras xs (Each-right Fit (extra_lines x) (flat_map extra_lines xs) h) r.1 in
    ((record { name = k.0; edges = record { rise = r.0; each = own.0 } }, rest.0), (own.1, rest.1))

table_fit : (xs : List Extra) → Each IsListed xs → AreExtrasReadable xs → Each Fit (table_lines xs)
table_fit [] h r = tt
table_fit (x ∷ xs) h r = (tt, (tt, extras_fit (x ∷ xs) h r))

fits_table : (xs : List Extra) → Each Fit (table_lines xs) → Each IsExtra xs → Each IsListed xs × AreExtrasReadable xs
fits_table [] h r = (tt, tt)
fits_table (x ∷ xs) h r = fits_extras (x ∷ xs) h.1.1 r

-- ---- packages

package_fits : (b : Locked) → IsPackage b → IsPackageReadable b → Each Fit (block_lines b)
package_fits b h r =
    Each-join Fit (block_front b.name b.version b.files b.edges) (table_lines b.extras)
    (Each-join Fit (block_top b.name b.version b.files) (edge_lines b.edges) (tt, (tt, (h.name, (h.version, files_fit b.files h.files)))) (edges_fit b.edges (edges_read b.edges h.edges.each r.edges)))
    (table_fit b.extras h.extras r.extras)

fits_package : (b : Locked) → Each Fit (block_lines b) → IsBlock b → IsPackage b × IsPackageReadable b
fits_package b h k =
    let front = Each-left Fit (block_front b.name b.version b.files b.edges) (table_lines b.extras) h in
    let top = Each-left Fit (block_top b.name b.version b.files) (edge_lines b.edges) front in
    let edges = read_edges b.edges (fits_edges b.edges (Each-right Fit (block_top b.name b.version b.files) (edge_lines b.edges) front)) in
    let extras = fits_table b.extras (Each-right Fit (block_front b.name b.version b.files b.edges) (table_lines b.extras) h) k.each in (
      record {
        name = top.1.1.0;
        version = top.1.1.1.0;
        files = fits_files b.files top.1.1.1.1;
        files_rise = k.files;
        edges = record { rise = k.edges; each = edges.0 };
        extras = extras.0;
        extras_rise = k.extras;
      },
      record { edges = edges.1; extras = extras.1 },
    )

packages_fit : (bs : List Locked) → Each IsPackage bs → Each IsPackageReadable bs → Each Fit (flat_map block_lines bs)
packages_fit [] h r = tt
packages_fit (b ∷ bs) h r = Each-join Fit (block_lines b) (flat_map block_lines bs) (package_fits b h.0 r.0) (packages_fit bs h.1 r.1)

fits_packages : (bs : List Locked) → Each Fit (flat_map block_lines bs) → Each IsBlock bs → Each IsPackage bs × Each IsPackageReadable bs
fits_packages [] h k = (tt, tt)
fits_packages (b ∷ bs) h k =
    let own = fits_package b (Each-left Fit (block_lines b) (flat_map block_lines bs) h) k.0 in
    let rest = fits_packages bs (Each-right Fit (block_lines b) (flat_map block_lines bs) h) k.1 in
    ((own.0, rest.0), (own.1, rest.1))

listed_extra : (xs : List Extra) → Each IsListed xs → Each IsExtra xs
listed_extra [] h = tt
listed_extra (x ∷ xs) h = (h.0.edges.rise, listed_extra xs h.1)

package_blocks : (bs : List Locked) → Each IsPackage bs → Each IsBlock bs
package_blocks [] h = tt
package_blocks (b ∷ bs) h = (record { files = h.0.files_rise; edges = h.0.edges.rise; extras = h.0.extras_rise; each = listed_extra b.extras h.0.extras }, package_blocks bs h.1)

-- ---- locks

-- a well formed lock that may be read has a shaped text, in each version that may have its files
pub shaped_text : (e : Edition) (l : Lock) → IsWellFormed l → IsLockReadable l → Each (λ b. MayHave e b.files) l.packages → IsText (sheet_in e l)
shaped_text e l h r a = record {
  shaped = record { forks = h.several; blocks = h.packages_rise; each = package_blocks l.packages h.packages; allowed = a };
  fit = (
    tt,
    (
      h.root,
      Each-join Fit (supported_lines l.supported ++ fork_lines l.forks) _
          (Each-join Fit (supported_lines l.supported) (fork_lines l.forks) (supported_fits l.supported (record { region = h.supported; readable = r.supported })) (forks_fit l.forks (regions_read l.forks h.forks r.forks)))
          (packages_fit l.packages h.packages r.packages),
    ),
  );
}

-- what a shaped text says of its markers and packages
record SaysParts (x : Sheet) : Type 0 where
  supported : IsReadRegion x.head.supported
  forks : Each IsRegion x.head.forks × Each IsReadable x.head.forks
  packages : Each IsPackage x.packages × Each IsPackageReadable x.packages

says_parts : (x : Sheet) → IsText x → SaysParts x
says_parts x h =
    let top = supported_lines x.head.supported ++ fork_lines x.head.forks in
    let rest = h.fit.1.1 in
    let heads = Each-left Fit top (flat_map block_lines x.packages) rest in
    record {
      supported = fits_supported x.head.supported (Each-left Fit (supported_lines x.head.supported) (fork_lines x.head.forks) heads);
      forks = read_regions x.head.forks (fits_forks x.head.forks (Each-right Fit (supported_lines x.head.supported) (fork_lines x.head.forks) heads));
      packages = fits_packages x.packages (Each-right Fit top (flat_map block_lines x.packages) rest) h.shaped.each;
    }

-- a shaped text without fault is a well formed lock's
pub well_formed : (x : Sheet) → IsText x → IsWell x → IsWellFormed (lock_of x)
well_formed x h w =
    let parts = says_parts x h in
    record {
      root = h.fit.1.0;
      supported = parts.supported.region;
      forks = parts.forks.0;
      several = h.shaped.forks;
      packages = parts.packages.0;
      packages_rise = h.shaped.blocks;
      one_root = w.root;
      targets = w.targets;
    }

-- and that lock is one that is read
pub readable : (x : Sheet) → IsText x → IsLockReadable (lock_of x)
readable x h = let parts = says_parts x h in record { supported = parts.supported.readable; forks = parts.forks.1; packages = parts.packages.1 }

-- the versions of a shaped text's packages
pub versions_fit : (bs : List Locked) → Each Fit (flat_map block_lines bs) → Each HasVersion bs
versions_fit [] h = tt
versions_fit (b ∷ bs) h =
    let k = Each-left Fit (block_lines b) (flat_map block_lines bs) h in
    let front = Each-left Fit (block_front b.name b.version b.files b.edges) (table_lines b.extras) k in
    let top = Each-left Fit (block_top b.name b.version b.files) (edge_lines b.edges) front in
    (top.1.1.1.0, versions_fit bs (Each-right Fit (block_lines b) (flat_map block_lines bs) h))

-- the packages of a shaped text are in order, and have versions
pub sorted_of : (x : Sheet) → IsText x → AreSorted x.packages
sorted_of x h = record {
  rise = h.shaped.blocks;
  versions = versions_fit x.packages (Each-right Fit (supported_lines x.head.supported ++ fork_lines x.head.forks) (flat_map block_lines x.packages) h.fit.1.1);
}

-- the text of a lock, as a shaped text
pub text_of : (text : List ℕ) (l : Lock) → (t : IsTextOf text l) → IsText (sheet_in t.edition l)
text_of text l t = shaped_text t.edition l t.well_formed t.readable t.allowed

all_allowed : (bs : List Locked) → Each (λ b. MayHave two b.files) bs
all_allowed [] = tt
all_allowed (b ∷ bs) = (tt, all_allowed bs)

-- what is written of a well formed lock that may be read is the lock's text
pub second_text : (l : Lock) → IsWellFormed l → IsLockReadable l → IsTextOf (lock_text l) l
second_text l h r = record { edition = two; allowed = all_allowed l.packages; well_formed = h; readable = r; same = refl }
