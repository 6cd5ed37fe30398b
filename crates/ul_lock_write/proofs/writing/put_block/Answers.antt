use Rattle.std.proofs.Common.{ap, ◌∙◌, ◌≡◌, ◌++◌, ◌∷◌, []}
use Rattle.std.specs.Prelude.{codes}
use Rattle.ul_version.specs.Texts.{version_text}
use Rattle.ul_lock_lines.specs.Raw.{keyed, quoted}
use Rattle.ul_lock_write.specs.Written.{edges_text, files_text, table_text, entry_front}
use Rattle.ul_lock_write.proofs.Written.{block_written}
use Rattle.ul_lock_write.proofs.writing.put_block.Goals as goal

pub returns : goal.returns
returns c =
    let name = keyed (codes "name") (quoted c.args.block.now.name (10 ∷ [])) in
    let version = keyed (codes "version") (quoted (version_text c.args.block.now.version) (10 ∷ [])) in
    let a : c.extend_from_slice.new.self.items ≡ c.args.out.now.items ++ entry_front = c.in_ok-extend_from_slice.ensures.items in
    let b : c.put_name_line.new.out.items ≡ c.extend_from_slice.new.self.items ++ name = c.in_ok-put_name_line.ensures in
    let d : c.put_version_line.new.out.items ≡ c.put_name_line.new.out.items ++ version = c.in_ok-put_version_line.ensures in
    let f : c.put_files.new.out.items ≡ c.put_version_line.new.out.items ++ files_text c.args.block.now.files = c.in_ok-put_files.ensures ∙ ap (λ z. c.put_version_line.new.out.items ++ files_text z) c.as_slice.ensures in
    let e : c.put_dependencies.new.out.items ≡ c.put_files.new.out.items ++ edges_text c.args.block.now.edges = c.in_ok-put_dependencies.ensures ∙ ap (λ z. c.put_files.new.out.items ++ edges_text z) c.as_slice-2.ensures in
    let g : c.put_table.new.out.items ≡ c.put_dependencies.new.out.items ++ table_text c.args.block.now.extras = c.in_ok-put_table.ensures ∙ ap (λ z. c.put_dependencies.new.out.items ++ table_text z) c.as_slice-3.ensures in
    g ∙ (ap (λ q. q ++ table_text c.args.block.now.extras) (e ∙ ap (λ q. q ++ edges_text c.args.block.now.edges) (f ∙ ap (λ q. q ++ files_text c.args.block.now.files) (d ∙ ap (λ q. q ++ version) (b ∙ ap (λ q. q ++ name) a)))) ∙ block_written c.args.out.now.items c.args.block.now)
