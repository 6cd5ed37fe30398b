use Rattle.std.proofs.Common.{◌||◌, ◌∙◌, map, sym, ap}
use Rattle.std.specs.Prelude.{not}
use Rattle.std.specs.Str.{bytes_eq}
use Rattle.ul_index.proofs.FileOrder.{any_key, insert_map, names_more}
use Rattle.ul_index.proofs.file_set.FileSet.add.Goals as goal

pub returns-clause-new : goal.returns-clause-new
returns-clause-new c = c.in_ok-added.ensures.added ∙ ap not (any_key c.args.self.now.keys.keys c.args.file.file)

pub returns-clause-noted : goal.returns-clause-noted
returns-clause-noted c name =
    sym (any_key c.insert.new.self.keys name)
    ∙ names_more c.args.file.file name _ _ (c.in_ok-added.ensures.updates.0 (record { file = record { file = name; sha256 = name } }))
    ∙ ap (λ b. bytes_eq c.args.file.file name || b) (any_key c.args.self.now.keys.keys name)

pub returns-clause-files : goal.returns-clause-files
returns-clause-files c = ap (map (λ x. x.file)) c.in_ok-added.ensures.keys ∙ insert_map c.args.self.now.keys.keys (record { file = c.args.file })
