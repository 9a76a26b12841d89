mod Trying
