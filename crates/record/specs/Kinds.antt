-- Which party receives a message: "in a kind it receives".
use Rattle.std.specs.Prelude.{Bool, true, false, not}
use Rattle.record.specs.declared.Kind.{Kind}
use Rattle.record.specs.declared.Kind.TheVariants.{Query, QueryAnswer, PreWrite, PreWriteAnswer, WriteFinalise, WriteFinaliseAnswer, ReadFinalise, ReadFinaliseAnswer, Cleared}

-- the kinds that a server receives
abbrev pub is_for_server : Kind → Bool
is_for_server Query = true
is_for_server QueryAnswer = false
is_for_server PreWrite = true
is_for_server PreWriteAnswer = false
is_for_server WriteFinalise = true
is_for_server WriteFinaliseAnswer = false
is_for_server ReadFinalise = true
is_for_server ReadFinaliseAnswer = false
is_for_server Cleared = false

-- a client receives the others
abbrev pub is_for_client : Kind → Bool
is_for_client kind = not (is_for_server kind)
