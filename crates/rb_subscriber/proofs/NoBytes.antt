-- What a value of no bytes is at run time.
use mir.Val.{Val, vstruct, vcons, vnil}

abbrev pub no_bytes : Val
no_bytes = vstruct (vcons (vstruct vnil) vnil)
