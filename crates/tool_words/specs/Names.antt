-- Names of files: what an ending is, the law that it tells, and the name of the file that is made.
use Rattle.std.specs.Prelude.{ℕ, ◌+◌, List, [], ◌∷◌, ◌++◌, Bool, cond, length, take, drop, eqb, Option, Some, None}
use Rattle.tool_words.specs.Texts.{same}
use Rattle.tool_words.specs.Endings.{ul8, mu8, mu, al8, al, lcm, lca, muo, alo}

-- where an octet at place i leaves the ending's place: after a '.', nowhere (`none`) after a '/', else where it was
abbrev pub place_after : ℕ → ℕ → ℕ → ℕ → ℕ
place_after none place i x = cond (eqb x 0x2F) none (cond (eqb x 0x2E) (i + 1) place)

unfoldable pub place_from : ℕ → ℕ → ℕ → List ℕ → ℕ
place_from none place i [] = place
place_from none place i (x ∷ name) = place_from none (place_after none place i x) (i + 1) name

-- an ending begins after the last '.' that is after the last '/'; where there is none it is empty, at the name's end
unfoldable pub ending_at : List ℕ → ℕ
ending_at name = place_from (length name) (length name) 0 name

abbrev pub ending_of : List ℕ → List ℕ
ending_of name = drop (ending_at name) name

-- a law is 0 for A, 1 for mu
unfoldable pub law_of_sound : List ℕ → Option ℕ
law_of_sound e =
    cond (same e ul8) (Some 1) (cond (same e mu8) (Some 1) (cond (same e mu) (Some 1)
    (cond (same e al8) (Some 0) (cond (same e al) (Some 0) None))))

unfoldable pub law_of_stream : List ℕ → Option ℕ
law_of_stream e = cond (same e lcm) (Some 1) (cond (same e lca) (Some 0) None)

-- the law that the name of what is read tells: `pack` reads sound, `unpack` a stream
abbrev pub law_told : Bool → List ℕ → Option ℕ
law_told packs name = cond packs (law_of_sound (ending_of name)) (law_of_stream (ending_of name))

-- the ending of what is written
abbrev pub new_ending : Bool → ℕ → List ℕ
new_ending packs law = cond packs (cond (eqb law 1) lcm lca) (cond (eqb law 1) muo alo)

-- an ending that tells a law is replaced, otherwise the new one is appended after a '.'
abbrev pub name_by : Option ℕ → List ℕ → List ℕ → List ℕ
name_by (Some l) name ending = take (ending_at name) name ++ ending
name_by None name ending = name ++ (0x2E ∷ ending)

unfoldable pub new_name : Bool → ℕ → List ℕ → List ℕ
new_name packs law name = name_by (law_told packs name) name (new_ending packs law)
