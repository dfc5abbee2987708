-- The arguments of the bench tools: what one is, and the settings that they make, one after another.
use Rattle.std.specs.Prelude.{ℕ, List, Bool, true, false, cond, not, ◌||◌, length, get_or, drop, eqb, Option, Some, None, Result, Ok, Err, is_none}
use Rattle.tool_words.specs.declared.options.Tool.{Tool}
use Rattle.tool_words.specs.declared.options.Tool.TheVariants.{Unpack, Pack, Why, Mend}
use Rattle.tool_words.specs.declared.options.Form as forms
use Rattle.tool_words.specs.declared.options.Form.TheVariants.{Raw, Linear, Wave}
use Rattle.tool_words.specs.declared.options.Flag as flags
use Rattle.tool_words.specs.declared.options.Flag.TheVariants.{Fill, Records, Lists, On}
use Rattle.tool_words.specs.declared.options.Flags.{Flags}
use Rattle.tool_words.specs.declared.options.Count.{Count}
use Rattle.tool_words.specs.declared.options.Count.TheVariants.{Length, Set, Frame, Total}
use Rattle.tool_words.specs.declared.options.Argument.{Argument}
use Rattle.tool_words.specs.declared.options.Argument.TheVariants.{File, Law, Form, Flag, Waits, Master, Counts}
use Rattle.tool_words.specs.declared.options.Wrong.{Wrong}
use Rattle.tool_words.specs.declared.options.Wrong.TheVariants.{Unknown, NoNumber, ManyFiles, Missing}
use Rattle.tool_words.specs.declared.options.Mistake.{Mistake}
use Rattle.tool_words.specs.declared.options.State.{State}
use Rattle.tool_words.specs.declared.options.State.TheVariants as state
use Rattle.tool_words.specs.declared.options.Settings.{Settings}
use Rattle.tool_words.specs.declared.options.Words.{Words}
use Rattle.rules.specs.Tools.{all_tools}
use Rattle.tool_words.specs.Names.{law_told}
use Rattle.tool_words.specs.Numbers.{number_in}

-- `pack` and `why` read sound, the others frames; `why` writes no file
abbrev pub reads_sound : Tool → Bool
reads_sound Unpack = false
reads_sound Pack = true
reads_sound Why = true
reads_sound Mend = false

abbrev pub has_outfile : Tool → Bool
has_outfile Unpack = true
has_outfile Pack = true
has_outfile Why = false
has_outfile Mend = true

-- what an option's letter is, or that none has it
abbrev pub Told : Type 0
Told = Result Argument Wrong

-- the options of each tool: "-l", linear values, and "-w", a WAV file; "-s#", the tool set; "-n#", the frame length; "-c MASTER"; "-f", fill
-- up; "-r", write a recording; "-v", list a recording's items; "-g", go on over losses; "-k#", one frame; "-t#", the total
abbrev pub unpack_letter : ℕ → Told
unpack_letter x =
    cond (eqb x 0x6C) (Ok (Form Linear)) (cond (eqb x 0x77) (Ok (Form Wave)) (cond (eqb x 0x73) (Ok (Waits Set))
    (cond (eqb x 0x63) (Ok Master) (cond (eqb x 0x76) (Ok (Flag Lists)) (cond (eqb x 0x67) (Ok (Flag On)) (Err Unknown))))))

abbrev pub pack_letter : ℕ → Told
pack_letter x =
    cond (eqb x 0x6C) (Ok (Form Linear)) (cond (eqb x 0x77) (Ok (Form Wave)) (cond (eqb x 0x6E) (Ok (Waits Length))
    (cond (eqb x 0x73) (Ok (Waits Set)) (cond (eqb x 0x66) (Ok (Flag Fill)) (cond (eqb x 0x72) (Ok (Flag Records)) (Err Unknown))))))

abbrev pub why_letter : ℕ → Told
why_letter x =
    cond (eqb x 0x73) (Ok (Waits Set)) (cond (eqb x 0x6E) (Ok (Waits Length)) (cond (eqb x 0x6B) (Ok (Waits Frame)) (Err Unknown)))

abbrev pub mend_letter : ℕ → Told
mend_letter x = cond (eqb x 0x74) (Ok (Waits Total)) (Err Unknown)

abbrev pub own_letter : Tool → ℕ → Told
own_letter Unpack x = unpack_letter x
own_letter Pack x = pack_letter x
own_letter Why x = why_letter x
own_letter Mend x = mend_letter x

-- an option of one letter, or one whose word is the next argument: "-u", "-a", and the tool's own
abbrev pub letter_of : Tool → ℕ → Told
letter_of tool x = cond (eqb x 0x75) (Ok (Law 1)) (cond (eqb x 0x61) (Ok (Law 0)) (own_letter tool x))

-- an option with its number
abbrev pub counts_by : Count → Option ℕ → Told
counts_by which (Some n) = Ok (Counts which n)
counts_by which None = Err NoNumber

abbrev pub numbered_by : Argument → List ℕ → Told
numbered_by (Waits which) rest = counts_by which (number_in rest)
numbered_by File rest = Err Unknown
numbered_by (Law l) rest = Err Unknown
numbered_by (Form f) rest = Err Unknown
numbered_by (Flag f) rest = Err Unknown
numbered_by Master rest = Err Unknown
numbered_by (Counts which n) rest = Err Unknown

abbrev pub numbered_if : Told → List ℕ → Told
numbered_if (Ok option) rest = numbered_by option rest
numbered_if (Err why) rest = Err why

-- what an argument is; "-" alone is a file, and so is what has no '-' in front; an empty one is nothing that is known
abbrev pub argument_of : Tool → List ℕ → Told
argument_of tool text =
    cond (eqb (length text) 0) (Err Unknown)
    (cond (eqb (length text) 1 || not (eqb (get_or text 0 0) 0x2D)) (Ok File)
    (cond (eqb (length text) 2) (letter_of tool (get_or text 1 0)) (numbered_if (letter_of tool (get_or text 1 0)) (drop 2 text))))

-- the tools of before document 02, R-14, which boxes in the field have; and the set unless one is said: frames are read with all tools
abbrev pub field_tools : ℕ
field_tools = 127

abbrev pub set_at_first : Tool → ℕ
set_at_first tool = cond (reads_sound tool) field_tools all_tools

-- the settings so far, after which any argument may come; or argument i is wrong
abbrev pub onward : Settings → Words
onward s = record { said = s; state = state.Ready }

abbrev pub wrongly : Wrong → ℕ → Mistake
wrongly why i = record { why = why; place = i }

-- before any argument: the frame length is 160 and the set the tool's own unless said; no flag is; the sound is raw G.711; files are given by
-- their arguments' numbers
abbrev pub no_flags : Flags
no_flags = record { fill = false; records = false; lists = false; on = false }

abbrev pub at_first : Tool → Words
at_first tool =
    onward (record {
      tool = tool;
      law = None;
      form = Raw;
      flags = no_flags;
      length = 160;
      set = set_at_first tool;
      frame = None;
      total = None;
      infile = None;
      outfile = None;
      master = None;
    })

-- -u, -a
abbrev pub with_law : Settings → ℕ → Settings
with_law s l = record s { law = Some l }

-- -l, -w
abbrev pub with_form : Settings → forms.Form → Settings
with_form s f = record s { form = f }

-- one of the flags is said
abbrev pub raised : Flags → flags.Flag → Flags
raised f Fill = record f { fill = true }
raised f Records = record f { records = true }
raised f Lists = record f { lists = true }
raised f On = record f { on = true }

abbrev pub with_flag : Settings → flags.Flag → Settings
with_flag s k = record s { flags = raised s.flags k }

-- the number of an option
abbrev pub counted : Settings → Count → ℕ → Settings
counted s Length v = record s { length = v }
counted s Set v = record s { set = v }
counted s Frame v = record s { frame = Some v }
counted s Total v = record s { total = Some v }

-- the first file is INFILE, the second OUTFILE, which `why` does not have, and there is no third
abbrev pub with_file : Settings → ℕ → Result Settings Wrong
with_file s i =
    cond (is_none s.infile) (Ok (record s { infile = Some i }))
    (cond (not (has_outfile s.tool)) (Err ManyFiles)
    (cond (is_none s.outfile) (Ok (record s { outfile = Some i })) (Err ManyFiles)))

-- -c MASTER
abbrev pub with_master : Settings → ℕ → Settings
with_master s i = record s { master = Some i }

-- the settings with what an argument says, or what is wrong with it
abbrev pub onward_if : Result Settings Wrong → Result Words Wrong
onward_if (Ok s) = Ok (onward s)
onward_if (Err why) = Err why

abbrev pub with_number : Settings → Count → Option ℕ → Result Words Wrong
with_number s which (Some v) = Ok (onward (counted s which v))
with_number s which None = Err NoNumber

abbrev pub with_argument : Settings → Argument → ℕ → Result Words Wrong
with_argument s File i = onward_if (with_file s i)
with_argument s (Law l) i = Ok (onward (with_law s l))
with_argument s (Form f) i = Ok (onward (with_form s f))
with_argument s (Flag k) i = Ok (onward (with_flag s k))
with_argument s (Waits which) i = Ok (record { said = s; state = state.Counts which })
with_argument s Master i = Ok (record { said = s; state = state.Master })
with_argument s (Counts which n) i = Ok (onward (counted s which n))

abbrev pub with_told : Settings → Told → ℕ → Result Words Wrong
with_told s (Ok a) i = with_argument s a i
with_told s (Err why) i = Err why

-- argument i; what is wrong with it is told with its number
abbrev pub by_state : Words → State → List ℕ → ℕ → Result Words Wrong
by_state w state.Ready text i = with_told w.said (argument_of w.said.tool text) i
by_state w (state.Counts which) text i = with_number w.said which (number_in text)
by_state w state.Master text i = Ok (onward (with_master w.said i))

abbrev pub placed : Result Words Wrong → ℕ → Result Words Mistake
placed (Ok w) i = Ok w
placed (Err why) i = Err (wrongly why i)

abbrev pub step_of : Words → List ℕ → ℕ → Result Words Mistake
step_of w text i = placed (by_state w w.state text i) i

-- after the last of n arguments
abbrev pub end_by : Words → State → ℕ → Result Settings Mistake
end_by w state.Ready n = Ok w.said
end_by w (state.Counts which) n = Err (wrongly Missing n)
end_by w state.Master n = Err (wrongly Missing n)

abbrev pub end_of : Words → ℕ → Result Settings Mistake
end_of w n = end_by w w.state n

-- the law: as an option says, otherwise as INFILE's name tells
abbrev pub law_by : Option ℕ → Option ℕ → Option ℕ
law_by (Some l) told = Some l
law_by None told = told

abbrev pub law_of : Settings → List ℕ → Option ℕ
law_of s name = law_by s.law (law_told (reads_sound s.tool) name)
