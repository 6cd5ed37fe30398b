-- The project has one eligible version.
use Rattle.std.proofs.Common.{◌≡◌, ℕ, List, [], ◌∷◌, find, length, cond, Contains, Some, sym, ap, ◌∙◌, subst, bytes_eq, arith}
use Rattle.ul_base.proofs.ForCallers.{only_one, none_in, bytes_eq-same}
use Rattle.ul_version.specs.Fields.{Fields}
use Rattle.ul_requirement.specs.Fields.{ReleaseFields, PackageFields}
use Rattle.ul_index.specs.Catalogs.{Packages, releases_of, releases_in}
use Rattle.ul_index.specs.Eligible.{eligible, passing}
use Rattle.ul_index.specs.Laws.{EligibleSame}
use Rattle.ul_index.proofs.ForCallers.{passing_in}
use Rattle.ul_sound.specs.Leaves.{Begins}

one_of : {A : Type 0} (xs : List A) (x y : A) → length xs ≡ 1 → Contains xs x → Contains xs y → x ≡ y
one_of [] x y e h k = absurd (none_in x h)
one_of (z ∷ []) x y e h k = only_one z x h ∙ sym (only_one z y k)
one_of (z ∷ a ∷ zs) x y e h k = absurd (omega (arith, e))

first_releases : (c : Packages) (n : List ℕ) (b : Begins c n) → releases_of c n ≡ b.first.releases
unfolding releases_of
first_releases c n b = ap (λ k. releases_of k n) b.is
    ∙ ap (λ t. releases_in (cond t (Some b.first) (find (λ (q : PackageFields). bytes_eq q.name n) b.rest))) (ap (λ k. bytes_eq k n) b.named ∙ bytes_eq-same n)

pub only_version : EligibleSame → (c : Packages) (n : List ℕ) → Begins c n → (v u : Fields) → Contains (eligible c n) v → Contains (eligible c n) u → v ≡ u
only_version law c n b v u h k =
    let r : (r : ReleaseFields) × Contains (passing c n) r × (r.version ≡ v) = (law c n v).0 h in
    let s : (r : ReleaseFields) × Contains (passing c n) r × (r.version ≡ u) = (law c n u).0 k in
    let same : r.0 ≡ s.0 = one_of b.first.releases r.0 s.0 b.one
    (subst (λ rs. Contains rs r.0) (first_releases c n b) (passing_in c n r.0 r.1))
    (subst (λ rs. Contains rs s.0) (first_releases c n b) (passing_in c n s.0 s.1)) in
    sym r.2 ∙ ap (λ (x : ReleaseFields). x.version) same ∙ s.2

-- an eligible version of the first package's name is that of one of its releases
pub version_in_first : EligibleSame → (c : Packages) (n : List ℕ) (b : Begins c n) (v : Fields) → Contains (eligible c n) v → (r : ReleaseFields) × Contains b.first.releases r × (r.version ≡ v)
version_in_first law c n b v k =
    let r : (r : ReleaseFields) × Contains (passing c n) r × (r.version ≡ v) = (law c n v).0 k in
    (r.0, subst (λ rs. Contains rs r.0) (first_releases c n b) (passing_in c n r.0 r.1), r.2)
