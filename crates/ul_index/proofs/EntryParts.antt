-- The parts of an entry, in the order of their checks: the first that is refused answers.
use Rattle.std.proofs.Common.{◌≡◌, ℕ, List, Option, codes, Bool, refl}
use Rattle.std.specs.Prelude.{Ok, Err}
use Rattle.serde_json.specs.Data.{Data}
use Rattle.serde_json.specs.Find.{get}
use Rattle.ul_requirement.specs.Fields.{RequirementFields}
use Rattle.ul_index.specs.Documents.{DocumentFault, entry_at, files_at, object_at, optional_text_at, requirements_at, text_at, yanked_at}
use Rattle.ul_index.specs.declared.place.EntryKey.TheVariants.{Version, RequiresPython, RequiresDist, Yanked}
use Rattle.ul_index.specs.declared.place.Place.TheVariants.{Entry, Key}

-- an entry that is no object
pub object-fault : (i : ℕ) (d : Data) (f : DocumentFault) → object_at (Entry i) d ≡ Err f → entry_at i d ≡ Err f
unfolding entry_at
object-fault i d f e = rw e refl

module _ (i : ℕ) (d : Data) (whole : object_at (Entry i) d ≡ Ok tt) where
  -- its version is refused
  pub version-fault : (f : DocumentFault) → text_at (Key i Version) (get (codes "version") d) ≡ Err f → entry_at i d ≡ Err f
  unfolding entry_at
  version-fault f e = rw (whole, e) refl

  module _ (s : List ℕ) (versioned : text_at (Key i Version) (get (codes "version") d) ≡ Ok s) where
    -- the interpreters that it asks for are refused
    pub python-fault : (f : DocumentFault) → optional_text_at (Key i RequiresPython) (get (codes "requires_python") d) ≡ Err f → entry_at i d ≡ Err f
    unfolding entry_at
    python-fault f e = rw (whole, versioned, e) refl

    module _ (o : Option (List ℕ)) (bound : optional_text_at (Key i RequiresPython) (get (codes "requires_python") d) ≡ Ok o) where
      -- its requirements are refused
      pub requirements-fault : (f : DocumentFault) → requirements_at (Key i RequiresDist) (get (codes "requires_dist") d) ≡ Err f → entry_at i d ≡ Err f
      unfolding entry_at
      requirements-fault f e = rw (whole, versioned, bound, e) refl

      module _ (rs : Option (List RequirementFields)) (required : requirements_at (Key i RequiresDist) (get (codes "requires_dist") d) ≡ Ok rs) where
        -- whether it was withdrawn is refused
        pub yanked-fault : (f : DocumentFault) → yanked_at (Key i Yanked) (get (codes "yanked") d) ≡ Err f → entry_at i d ≡ Err f
        unfolding entry_at
        yanked-fault f e = rw (whole, versioned, bound, required, e) refl

        -- its files are refused
        pub files-fault : (b : Bool) (f : DocumentFault) → yanked_at (Key i Yanked) (get (codes "yanked") d) ≡ Ok b
            → files_at i (get (codes "files") d) ≡ Err f → entry_at i d ≡ Err f
        unfolding entry_at
        files-fault b f withdrawn e = rw (whole, versioned, bound, required, withdrawn, e) refl
