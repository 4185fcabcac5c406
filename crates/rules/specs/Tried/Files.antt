-- 01, The job file: the worked outputs, of the definitions themselves. Assumes nothing.
use Rattle.std.specs.Prelude.{◌≡◌, List, [], ◌∷◌, ◌++◌, ℕ, ◌/◌, ◌%◌, ◌^◌, length}
use Rattle.rules.specs.JobFile.{text, job}

-- the records of a job file, as bytes
abbrev eight : ℕ → List ℕ
eight n =
    n % 256 ∷ n / 256 % 256 ∷ n / 256 ^ 2 % 256 ∷ n / 256 ^ 3 % 256
    ∷ n / 256 ^ 4 % 256 ∷ n / 256 ^ 5 % 256 ∷ n / 256 ^ 6 % 256 ∷ n / 256 ^ 7 % 256 ∷ []

abbrev begin : ℕ → List ℕ
begin code = 1 ∷ code ∷ []

abbrev corner : ℕ → ℕ → List ℕ
corner x y = 2 ∷ eight x ++ eight y

abbrev close : List ℕ
close = 3 ∷ []

abbrev query : ℕ → ℕ → List ℕ
query x y = 4 ∷ eight x ++ eight y

-- "Input J, 122 bytes: kind 1 code 1; corners (0,0), (1000,0), (1000,1000), (0,1000); kind 3; queries (500,500), (0,500), (1500,500)."
unfoldable pub J : List ℕ
J =
    begin 1 ++ corner 0 0 ++ corner 1000 0 ++ corner 1000 1000 ++ corner 0 1000 ++ close
    ++ query 500 500 ++ query 0 500 ++ query 1500 500

-- "The same file with corners (0,0), (1000,1000), (1000,0), (0,1000)"
unfoldable pub bow_file : List ℕ
bow_file =
    begin 1 ++ corner 0 0 ++ corner 1000 1000 ++ corner 1000 0 ++ corner 0 1000 ++ close
    ++ query 500 500 ++ query 0 500 ++ query 1500 500

abbrev triangle : List ℕ
triangle = begin 14 ++ corner 0 0 ++ corner 5 0 ++ corner 0 5 ++ close

pub record Jobs : Type 0 where
  pub J_length : length J ≡ 122
  -- "The whole output of the field program"
  pub J_output : job J ≡ text "field 1 corners 4 area2 2000000\nnozzle 500 500 open\nnozzle 0 500 border\nnozzle 1500 500 shut\nend 9\n"
  -- "prints only"
  pub bow_output : job bow_file ≡ text "refused 9 at 70 edges 0 2\n"
  -- "An empty file prints `end 0`."
  pub empty_output : job [] ≡ text "end 0\n"
  -- "A file that ends while a field is gathered is refused 13 at its length."
  pub unfinished : job (begin 1 ++ corner 0 0) ≡ text "refused 13 at 19\n"
  -- "In a job: 11, 12, 13, then the content's own"
  pub unknown_kind : job (6 ∷ []) ≡ text "refused 11 at 0\n"
  pub cut_off : job (2 ∷ 0 ∷ []) ≡ text "refused 12 at 0\n"
  pub no_place : job (corner 0 0) ≡ text "refused 13 at 0\n"
  pub unknown_code : job (begin 15) ≡ text "refused 1 at 0\n"
  -- "Lines printed before a refusal stay."; "1, 4 and 5 need none; 4 needs an accepted field. A later kind 1 drops the old field."
  pub lines_stay : job (triangle ++ close) ≡ text "field 14 corners 3 area2 25\nrefused 13 at 54\n"
  pub field_dropped : job (triangle ++ begin 2 ++ query 0 0) ≡ text "field 14 corners 3 area2 25\nrefused 13 at 56\n"
  pub too_few : job (begin 1 ++ corner 0 0 ++ corner 5 0 ++ close) ≡ text "refused 6 at 36\n"
