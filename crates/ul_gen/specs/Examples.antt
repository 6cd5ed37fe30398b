-- Worked examples of the generator's numbers and texts.
use Rattle.std.specs.Prelude.{◌≡◌, codes}
use Rattle.ul_gen.specs.Numbers.{draw}
use Rattle.ul_gen.specs.Texts.{project_text, document_text}

-- draws, a project file and documents, computed apart from the program
pub record Examples : Type 0 where
  pub nought : draw 0 0 0 ≡ 740882966
  pub other_release : draw 0 0 1 ≡ 791327583
  pub other_seed : draw 1 0 1 ≡ 1532210550
  pub second_place : draw 7 3 6 ≡ 266440031
  pub greatest_seed : draw 18446744073709551615 1999 8 ≡ 424294095
  pub one_package : project_text 1 ≡ codes "[project]\nname = \"generated\"\nversion = \"1\"\nrequires-python = \">=3.9\"\ndependencies = [\n    \"g0>=1\",\n    \"g0<3; python_version < '3.10'\",\n    \"g0; python_version >= '3.10'\",\n]\n"
  pub nine_packages : project_text 9 ≡ codes "[project]\nname = \"generated\"\nversion = \"1\"\nrequires-python = \">=3.9\"\ndependencies = [\n    \"g0>=1\",\n    \"g8>=1\",\n    \"g0<3; python_version < '3.10'\",\n    \"g0; python_version >= '3.10'\",\n    \"g1<3; python_version < '3.11'\",\n    \"g1; python_version >= '3.11'\",\n    \"g2<3; python_version < '3.12'\",\n    \"g2; python_version >= '3.12'\",\n]\n"
  pub alone : document_text 1 1 0 ≡ codes "{\"name\":\"g0\",\"versions\":[{\"version\":\"1\",\"requires_dist\":[]},{\"version\":\"2\",\"requires_dist\":[]},{\"version\":\"3\",\"requires_dist\":[]},{\"version\":\"4\",\"requires_dist\":[]}]}"
  pub two_each : document_text 7 30 3 ≡ codes "{\"name\":\"g3\",\"versions\":[{\"version\":\"1\",\"requires_dist\":[\"g5>=2\",\"g10>=2\"]},{\"version\":\"2\",\"requires_dist\":[\"g14>=2\",\"g19>=2\"]},{\"version\":\"3\",\"requires_dist\":[\"g8>=1\",\"g13>=1\"]},{\"version\":\"4\",\"requires_dist\":[\"g17>=1\",\"g6>=2\"]}]}"
  pub some_left_out : document_text 7 5 1 ≡ codes "{\"name\":\"g1\",\"versions\":[{\"version\":\"1\",\"requires_dist\":[]},{\"version\":\"2\",\"requires_dist\":[]},{\"version\":\"3\",\"requires_dist\":[\"g4>=1\"]},{\"version\":\"4\",\"requires_dist\":[\"g2>=2\"]}]}"
