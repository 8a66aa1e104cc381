-- The words of a request's line. States docs/requests.md, "Requests".
use Rattle.std.specs.Prelude.{List, [], ◌∷◌, get_or, codes, decimal}
use Rattle.psos_text.specs.Hex.{hex4}
use Rattle.psos_text.specs.Name.{name_text}
use Rattle.psos_calls.specs.declared.request.Request.{Request}
use Rattle.psos_calls.specs.declared.request.Request.TheVariants as R
use Rattle.psos_model.specs.Text.Operands.{Text, register_text, guard_text}

-- the name of the request and its operands in order, where the code blocks have these labels
abbrev pub request_words : List Text → Request → List Text
request_words labels (R.Mint rd) = codes "mint" ∷ register_text rd ∷ []
request_words labels (R.Restrict rd rs keep) = codes "restrict" ∷ register_text rd ∷ register_text rs ∷ hex4 keep.0 ∷ []
request_words labels (R.Set rd n) = codes "set" ∷ register_text rd ∷ decimal n ∷ []
request_words labels (R.Move rd rs) = codes "move" ∷ register_text rd ∷ register_text rs ∷ []
request_words labels (R.Add rd ra rb) = codes "add" ∷ register_text rd ∷ register_text ra ∷ register_text rb ∷ []
request_words labels (R.Read rd rs n) = codes "read" ∷ register_text rd ∷ register_text rs ∷ decimal n ∷ []
request_words labels (R.Write rs n rv) = codes "write" ∷ register_text rs ∷ decimal n ∷ register_text rv ∷ []
request_words labels (R.Window rd rs base len) = codes "window" ∷ register_text rd ∷ register_text rs ∷ decimal base ∷ decimal len ∷ []
request_words labels (R.Length rd rs) = codes "length" ∷ register_text rd ∷ register_text rs ∷ []
request_words labels (R.Lookup rd rs name) = codes "lookup" ∷ register_text rd ∷ register_text rs ∷ name_text name ∷ []
request_words labels (R.Bind rs name rv) = codes "bind" ∷ register_text rs ∷ name_text name ∷ register_text rv ∷ []
request_words labels (R.Unbind rs name) = codes "unbind" ∷ register_text rs ∷ name_text name ∷ []
request_words labels (R.List rs) = codes "list" ∷ register_text rs ∷ []
request_words labels (R.Impl rd rt ro) = codes "impl" ∷ register_text rd ∷ register_text rt ∷ register_text ro ∷ []
request_words labels (R.MkSeg rd rs name len guard) = codes "mkseg" ∷ register_text rd ∷ register_text rs ∷ name_text name ∷ decimal len ∷ guard_text guard ∷ []
request_words labels (R.MkDir rd rs name guard) = codes "mkdir" ∷ register_text rd ∷ register_text rs ∷ name_text name ∷ guard_text guard ∷ []
request_words labels (R.MkType rd rs name) = codes "mktype" ∷ register_text rd ∷ register_text rs ∷ name_text name ∷ []
request_words labels (R.MkObj rd rt rs name len) = codes "mkobj" ∷ register_text rd ∷ register_text rt ∷ register_text rs ∷ name_text name ∷ decimal len ∷ []
request_words labels (R.MkCode rd rs name label rl) = codes "mkcode" ∷ register_text rd ∷ register_text rs ∷ name_text name ∷ get_or labels label [] ∷ register_text rl ∷ []
request_words labels (R.Delete rs name) = codes "delete" ∷ register_text rs ∷ name_text name ∷ []
request_words labels (R.Send rp rv) = codes "send" ∷ register_text rp ∷ register_text rv ∷ []
request_words labels (R.Recv rd) = codes "recv" ∷ register_text rd ∷ []
request_words labels (R.Call rp) = codes "call" ∷ register_text rp ∷ []
request_words labels (R.Path rs) = codes "path" ∷ register_text rs ∷ []
request_words labels (R.Find rd name) = codes "find" ∷ register_text rd ∷ name_text name ∷ []
