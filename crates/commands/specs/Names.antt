-- The words of the command program's lines, as bytes.
use Rattle.std.specs.Prelude.{ℕ, List, [], ◌∷◌}

-- `open`
unfoldable pub open_name : List ℕ
open_name = 111 ∷ 112 ∷ 101 ∷ 110 ∷ []

-- `begin`
unfoldable pub begin_name : List ℕ
begin_name = 98 ∷ 101 ∷ 103 ∷ 105 ∷ 110 ∷ []

-- `write`
unfoldable pub write_name : List ℕ
write_name = 119 ∷ 114 ∷ 105 ∷ 116 ∷ 101 ∷ []

-- `read`
unfoldable pub read_name : List ℕ
read_name = 114 ∷ 101 ∷ 97 ∷ 100 ∷ []

-- `test`
unfoldable pub test_name : List ℕ
test_name = 116 ∷ 101 ∷ 115 ∷ 116 ∷ []

-- `commit`
unfoldable pub commit_name : List ℕ
commit_name = 99 ∷ 111 ∷ 109 ∷ 109 ∷ 105 ∷ 116 ∷ []

-- `abort`
unfoldable pub abort_name : List ℕ
abort_name = 97 ∷ 98 ∷ 111 ∷ 114 ∷ 116 ∷ []

-- `cut`
unfoldable pub cut_name : List ℕ
cut_name = 99 ∷ 117 ∷ 116 ∷ []

-- `what`
unfoldable pub what_name : List ℕ
what_name = 119 ∷ 104 ∷ 97 ∷ 116 ∷ []

-- `closed`
unfoldable pub closed_name : List ℕ
closed_name = 99 ∷ 108 ∷ 111 ∷ 115 ∷ 101 ∷ 100 ∷ []

-- `lost`
unfoldable pub lost_name : List ℕ
lost_name = 108 ∷ 111 ∷ 115 ∷ 116 ∷ []

-- `none`
unfoldable pub none_name : List ℕ
none_name = 110 ∷ 111 ∷ 110 ∷ 101 ∷ []

-- `no`
unfoldable pub no_name : List ℕ
no_name = 110 ∷ 111 ∷ []
