use Rattle.std.proofs.Common.{ap, ◌∙◌, ◌≡◌, ◌++◌, ◌∷◌, []}
use Rattle.std.specs.Prelude.{codes}
use Rattle.ul_lock_lines.specs.Raw.{end_text}
use Rattle.ul_lock_write.proofs.Written.{file_written}
use Rattle.ul_lock_write.proofs.writing.put_file.Goals as goal

pub returns : goal.returns
returns c =
    let f = c.args.file.now in
    let front = codes "    { file = " ++ 34 ∷ [] in
    let hash = 34 ∷ codes ", hash = \"sha256:" in
    let a : c.extend_from_slice.new.self.items ≡ c.args.out.now.items ++ front = c.in_ok-extend_from_slice.ensures.items in
    let b : c.put_text.new.out.items ≡ c.extend_from_slice.new.self.items ++ f.file = c.in_ok-put_text.ensures ∙ ap (λ z. c.extend_from_slice.new.self.items ++ z) c.file_name.ensures in
    let d : c.extend_from_slice-2.new.self.items ≡ c.put_text.new.out.items ++ hash = c.in_ok-extend_from_slice-2.ensures.items in
    let e : c.put_text-2.new.out.items ≡ c.extend_from_slice-2.new.self.items ++ f.sha256 = c.in_ok-put_text-2.ensures ∙ ap (λ z. c.extend_from_slice-2.new.self.items ++ z) c.file_sum.ensures in
    let g : c.extend_from_slice-3.new.self.items ≡ c.put_text-2.new.out.items ++ 34 ∷ end_text = c.in_ok-extend_from_slice-3.ensures.items in
    g ∙ (ap (λ q. q ++ 34 ∷ end_text) (e ∙ ap (λ q. q ++ f.sha256) (d ∙ ap (λ q. q ++ hash) (b ∙ ap (λ q. q ++ f.file) a))) ∙ file_written c.args.out.now.items c.args.file.now)
