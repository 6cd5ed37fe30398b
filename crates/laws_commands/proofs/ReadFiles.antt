-- What was read of files: the text of a file, and the parts of a resolution, whatever an old lock keeps.
use Rattle.std.proofs.Common.{◌≡◌, ◌∙◌, ◌≤◌, ℕ, List, [], true, length, Option, Some, None, Ok, refl, sym, ap, subst, arith, inl, inr}
use Rattle.std.specs.Prelude.{codes, nat_le}
use Rattle.ul_files.specs.Files.{FileMap, content}
use Rattle.ul_index.specs.Catalogs.{Packages}
use Rattle.ul_project.specs.Fields.{ProjectFields}
use Rattle.ul_lock.specs.WellFormed.{IsWellFormed}
use Rattle.ul_lock.specs.declared.parts.Lock.{Lock}
use Rattle.ul_lock_read.specs.Laws.{TextIsLocks}
use Rattle.ul_lock_write.specs.Markers.{first_over, markers_of}
use Rattle.ul_lock_write.specs.Texts.{lock_text}
use Rattle.ul_inputs.specs.Inputs.{bounded, large_file, said_on, text_bytes}
use Rattle.ul_inputs.specs.Locks.{Kept, lock_at, old_lock}
use Rattle.ul_inputs.specs.Projects.{project_at}
use Rattle.ul_inputs.specs.Resolutions.{ResolutionFields, resolution_in, resolution_of, resolution_with}
use Rattle.laws_frames.specs.Frames.{AgreeOn, InputsByWhatIsRead}
use Rattle.laws_commands.proofs.Ones.{ok_same}

-- ---- the text of a file

-- a length within the limit, as the test answers
pub fits : (n : ℕ) → n ≤ text_bytes → nat_le n text_bytes ≡ true
fits n h = grind arith

-- the text of a file that isn't too long
pub file_text : (m : FileMap) (path text : List ℕ) → content m path ≡ Some text → length text ≤ text_bytes
    → (large_file path m).gives (Ok text)
file_text m path text at few = inr (record {
  value = Some text;
  gave =
      let whole : bounded (codes "text-bytes") text_bytes (Some text) ≡ Ok (Some text) =
      rw (fits (length text) few) refl in
      sym whole ∙ ap (bounded (codes "text-bytes") text_bytes) (sym at);
  answers = refl;
})

-- the text of a lock is read as the lock
pub text_read : TextIsLocks → (m : FileMap) (path : List ℕ) (l : Lock) → IsWellFormed l → first_over (markers_of l) ≡ None
    → content m path ≡ Some (lock_text l) → length (lock_text l) ≤ text_bytes → (lock_at path m).gives (Ok l)
text_read texts m path l well printable at few = inr (record {
  value = lock_text l;
  gave = file_text m path (lock_text l) at few;
  answers = texts l well printable;
})

-- ---- the parts of a resolution

-- what was read of the project and the index folder, which gives a resolution without an old lock too, and what the old
-- lock keeps
pub record Read (project folder : List ℕ) (old : Option (List ℕ)) (m : FileMap) (r : ResolutionFields) : Type 0 where
  pub fields : ProjectFields
  pub said : (project_at project m).gives (Ok fields)
  pub kept : List Kept
  pub keeps : (old_lock old m).gives (Ok kept)
  pub catalog : Packages
  pub made : (resolution_with folder fields [] m).gives (Ok (resolution_of fields [] catalog))
  pub is : r ≡ resolution_of fields kept catalog

-- the parts of what the index folder gave
read_with : (project folder : List ℕ) (old : Option (List ℕ)) (m : FileMap) (r : ResolutionFields) (p : ProjectFields)
    (kept : List Kept)
    → (project_at project m).gives (Ok p) → (old_lock old m).gives (Ok kept)
    → (resolution_with folder p kept m).gives (Ok r) → Read project folder old m r
read_with project folder old m r p kept said keeps (inl h) = absurd h
read_with project folder old m r p kept said keeps (inr h) = record {
  fields = p;
  said = said;
  kept = kept;
  keeps = keeps;
  catalog = h.value;
  made = inr (record { value = h.value; gave = h.gave; answers = refl });
  is = ok_same ResolutionFields r (resolution_of p kept h.value) h.answers;
}

-- the parts of what the old lock and the index folder gave
read_behind : (project folder : List ℕ) (old : Option (List ℕ)) (m : FileMap) (r : ResolutionFields) (p : ProjectFields)
    → (project_at project m).gives (Ok p)
    → (said_on (old_lock old m) (λ kept. resolution_with folder p kept m)).gives (Ok r) → Read project folder old m r
read_behind project folder old m r p said (inl h) = absurd h
read_behind project folder old m r p said (inr h) = read_with project folder old m r p h.value said h.gave h.answers

-- the parts of what the files gave
pub read_of : (project folder : List ℕ) (old : Option (List ℕ)) (m : FileMap) (r : ResolutionFields)
    → (resolution_in project folder old m).gives (Ok r) → Read project folder old m r
read_of project folder old m r (inl h) = absurd h
read_of project folder old m r (inr h) = read_behind project folder old m r h.value h.gave h.answers

-- without an old lock it is the resolution itself
pub made_itself : (project folder : List ℕ) (m : FileMap) (r : ResolutionFields) (read : Read project folder None m r)
    → (resolution_with folder read.fields [] m).gives (Ok r)
made_itself project folder m r read =
    let none = ok_same (List Kept) read.kept [] read.keeps in
    subst (λ s. (resolution_with folder read.fields [] m).gives (Ok s))
    (sym (read.is ∙ ap (λ kept. resolution_of read.fields kept read.catalog) none)) read.made

-- ---- other files

-- the project is said too where what is read for it is the same
pub said_now : InputsByWhatIsRead → (project folder : List ℕ) (before now : FileMap) (p : ProjectFields)
    → AgreeOn (resolution_in project folder None before).reads before now
    → (project_at project before).gives (Ok p) → (project_at project now).gives (Ok p)
said_now inputs project folder before now p agree said =
    ((inputs.project project before now (λ path read. agree path (inl read))).gives (Ok p)).0 said

-- and so is what it makes with the index folder
pub made_now : InputsByWhatIsRead → (project folder : List ℕ) (before now : FileMap) (p : ProjectFields) (r : ResolutionFields)
    → AgreeOn (resolution_in project folder None before).reads before now
    → (project_at project before).gives (Ok p) → (resolution_with folder p [] before).gives (Ok r)
    → (resolution_with folder p [] now).gives (Ok r)
made_now inputs project folder before now p r agree said made =
    let read_too : AgreeOn (resolution_with folder p [] before).reads before now =
    λ path read. agree path (inr (record { value = p; gave = said; read = inr (record { value = []; gave = refl; read = read }) })) in
    ((inputs.catalog folder p [] before now read_too).gives (Ok r)).0 made
