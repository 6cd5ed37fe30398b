-- What is told of a path that is read, by the files that are opened by their paths.
use Rattle.std.specs.Prelude.{ℕ, List, Option, Result, IfErr, IfOk, IfSome, Vec}
use Rattle.std.specs.IoError.{error_kind}
use Rattle.std.specs.declared.alloc.Global.{Global}
use Rattle.std.specs.declared.io.Error.{Error}
use Rattle.ul_files.specs.declared.files.ReadRefused.{ReadRefused}
use Rattle.ul_edge.specs.Opened.{IsThere, IsToldOf, IsUnopened}
use Rattle.ul_edge.specs.declared.opened_files.OpenedFiles.{OpenedFiles}

-- what opens the files
abbrev pub opener_of : {T : Type 0} → OpenedFiles T → T
opener_of files = files.opener

-- so it is told of what opening the path answered; a file that was opened has these bytes left, where it tells them
pub record IsReadOf {T : Type 0} (opens : Result T Error → Type 0) (remaining : T → Option (List ℕ)) (limit : ℕ) (told : Result (Option (Vec ℕ Global)) ReadRefused)
    : Type 0 where
  pub opened : Result T Error
  pub answered : opens opened
  pub unopened : IfErr opened (λ e. IsUnopened (error_kind e) told)
  pub there : IfOk opened (λ file. IsThere told)
  pub bytes : IfOk opened (λ file. IfSome (remaining file) (λ left. IsToldOf left limit told))
