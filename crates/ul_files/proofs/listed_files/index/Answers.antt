use Rattle.std.proofs.Common.{arith, ap, sym, ◌∙◌, ℕ, String, Vec, string_bytes}
use Rattle.std.specs.declared.alloc.Global.{Global}
use Rattle.std.proofs.lemmas.Map.Text.{hash_map_updates_text}
use Rattle.ul_files.proofs.ListedFiles.{says_more}
use Rattle.ul_files.proofs.listed_files.index.Goals as goal

pub loop-place-preserved : goal.loop-place-preserved
loop-place-preserved c = λ path.
    says_more _ _ _ path _ _ _ _ (omega arith) (omega arith) c.index-list-place.is
    (c.in_ok-path.ensures.ok ∙ (c.as_str.ensures.value
    ∙ ap (λ (y : String Global × Vec ℕ Global). string_bytes y.0) (sym c.index-list-place.is)))
    (hash_map_updates_text _ c.loop-place.places c.insert.new.self _ c.in_ok-insert.ensures.updates path)
    (c.loop-place.invariant path)
